-- `judging::lines_verdict` is the lines' verdict: the lowest bad line is the one named.
-- The loops keep that all routines below r, and of routine r all lines below j, pass (`PassedTo`). Assumes nothing.
use Rattle.scope.specs.Book.{line_verdict, routine_verdict}
use Rattle.book.proofs.Scanned.{PassedTo}
use Rattle.book.proofs.judging.lines_verdict.Given as goal

abbrev pub invariant-loop-j : goal.invariant-loop-j
invariant-loop-j l = PassedTo (line_verdict l.b l.r) l.count l.j

abbrev pub invariant-loop-r : goal.invariant-loop-r
invariant-loop-r l = PassedTo (routine_verdict l.b) l.routines l.r
