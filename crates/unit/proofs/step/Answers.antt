-- `step` answers as a run with a budget of 1 from the state does, and gives the new state, or the one that came where it is refused.
-- The state's registers are 32, so what is tested before a run is what is tested before a bench step. Assumes nothing.
use Rattle.unit.proofs.Answers.{step_refused, step_made}
use Rattle.unit.proofs.step.Goals as goal

pub returns-in-Err : goal.returns-in-Err
returns-in-Err c = search step_refused

pub returns-in-Ok : goal.returns-in-Ok
returns-in-Ok c = search step_made
