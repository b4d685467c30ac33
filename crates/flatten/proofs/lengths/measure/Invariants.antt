-- `lengths::measure` puts where the lines of a routine start in the table, and is its length.
-- The first j lines are measured (`Summing`). Assumes nothing.
use Rattle.flatten.proofs.Rows.{Summing}
use Rattle.flatten.proofs.lengths.measure.Given as goal

abbrev pub invariant-loop-j : goal.invariant-loop-j
invariant-loop-j l = Summing l.b.bytes.now l.k l.n l.at l.j l.sum l.starts
