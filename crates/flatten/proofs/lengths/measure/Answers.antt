-- `lengths::measure` puts where the lines of a routine start in the table, and is its length.
-- The first j lines are measured (`Summing`). Assumes nothing.
use Rattle.flatten.proofs.Rows.{nothing_summed, one_more_summed, routine_measured}
use Rattle.flatten.proofs.lengths.measure.Goals as goal

pub loop-j-init : goal.loop-j-init
loop-j-init c = search nothing_summed

pub loop-j-preserved : goal.loop-j-preserved
loop-j-preserved c = search one_more_summed

pub returns : goal.returns
returns c = search routine_measured
