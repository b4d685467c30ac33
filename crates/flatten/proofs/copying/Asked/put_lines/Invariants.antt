-- `Asked::put_lines` writes the flat program of a routine, line by line.
-- The first p lines are written (`WrittenTo`). Assumes nothing.
use Rattle.flatten.proofs.Putting.{WrittenTo}
use Rattle.flatten.proofs.copying.Asked.put_lines.Given as goal

abbrev pub invariant-loop-p : goal.invariant-loop-p
invariant-loop-p l = WrittenTo l.self.starts.book.bytes.now l.self.routine l.self.n l.initial.out l.here l.p l.out
