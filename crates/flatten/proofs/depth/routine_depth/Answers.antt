-- `depth::routine_depth` is how many routines are open inside one another from a routine on, stopped at the cap.
-- The first j lines are looked at (`DeepestTo`). Assumes nothing.
use Rattle.flatten.proofs.Deepest.{none_looked_at, one_more_looked_at, routine_depth_is}
use Rattle.flatten.proofs.depth.routine_depth.Goals as goal

pub loop-j-init : goal.loop-j-init
loop-j-init c = search none_looked_at

pub loop-j-preserved : goal.loop-j-preserved
loop-j-preserved c = search one_more_looked_at

pub returns : goal.returns
returns c = search routine_depth_is
