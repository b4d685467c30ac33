-- `machine::run_on` ends as the run of the book's program does, and leaves the registers so.
-- At every turn the rest of the run ends as the whole does (`Keeps`); the budget less the steps falls. Assumes nothing.
use Rattle.unit.proofs.Runs.{nothing_done, line_below_the_most, register_there, run_goes_on, ends}
use Rattle.unit.proofs.machine.run_on.Goals as goal

pub run-init : goal.run-init
run-init c = search nothing_done

pub returns-then-line-n : goal.returns-then-line-n
returns-then-line-n c = search ends

pub returns-then-steps-budget : goal.returns-then-steps-budget
returns-then-steps-budget c = search ends

pub does-requires : goal.does-requires
does-requires c = search (register_there, line_below_the_most)

pub returns-in-Err : goal.returns-in-Err
returns-in-Err c = search ends

pub run-preserved : goal.run-preserved
run-preserved c = search run_goes_on
