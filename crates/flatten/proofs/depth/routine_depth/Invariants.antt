-- `depth::routine_depth` is how many routines are open inside one another from a routine on, stopped at the cap.
-- The first j lines are looked at (`DeepestTo`). Assumes nothing.
use Rattle.flatten.proofs.Deepest.{DeepestTo}
use Rattle.flatten.proofs.depth.routine_depth.Given as goal

abbrev pub invariant-loop-j : goal.invariant-loop-j
invariant-loop-j l = DeepestTo l.b.bytes.now l.k l.j-end l.j l.deepest
