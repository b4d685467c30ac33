-- `run_and_print` prints what a run of the flat book answers, with the registers and the budget that the trailer gives.
-- The run is called with what was read. Assumes nothing.
use Rattle.counter.proofs.Texts.{printed_there}
use Rattle.counter.proofs.Served.{run_is_printed}
use Rattle.counter.proofs.run_and_print.Goals as goal

pub returns : goal.returns
returns c = search (printed_there, run_is_printed)
