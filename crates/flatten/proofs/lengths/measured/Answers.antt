-- `lengths::measured` has the length of every routine, and puts where each line starts in the table.
-- The routines below k are measured (`Measuring`). Assumes nothing.
use Rattle.flatten.proofs.Rows.{nothing_measured, all_measured}
use Rattle.flatten.proofs.lengths.measured.Goals as goal

pub loop-k-init : goal.loop-k-init
loop-k-init c = search nothing_measured

pub returns : goal.returns
returns c = search all_measured
