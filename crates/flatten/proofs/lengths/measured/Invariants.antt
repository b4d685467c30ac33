-- `lengths::measured` has the length of every routine, and puts where each line starts in the table.
-- The routines below k are measured (`Measuring`). Assumes nothing.
use Rattle.flatten.proofs.Rows.{Measuring}
use Rattle.flatten.proofs.lengths.measured.Given as goal

abbrev pub invariant-loop-k : goal.invariant-loop-k
invariant-loop-k l = Measuring l.b.bytes.now l.routines l.k l.lengths l.starts
