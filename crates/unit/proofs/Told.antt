-- No two answers of the unit tell the same: each is got back from what it tells.
-- By the cases of each type, as for the answers of `book`. Assumes nothing.
use Rattle.std.specs.Prelude.{Result}
use mathlib.Core.Path.{◌≡◌, refl, ap}
use Rattle.scope.specs.Steps as paper
use Rattle.scope.specs.Running as running
use Rattle.book.specs.declared.refusals.Refusal.{Refusal}
use Rattle.book.proofs.Told.{apart, answers_apart}
use Rattle.unit.specs.declared.machine.Outcome.{Outcome}
use Rattle.unit.specs.declared.machine.Outcome.TheVariants as outcome
use Rattle.unit.specs.declared.machine.Answer as machine
use Rattle.unit.specs.declared.State.{State}
use Rattle.unit.specs.Told.{outcome_told, answer_told, ran_told, state_told}

abbrev outcome_back : paper.Outcome → Outcome
outcome_back paper.FINISHED = outcome.Finished
outcome_back paper.OUT_OF_STEPS = outcome.OutOfSteps
outcome_back (paper.FULL r) = outcome.Full (record { 0 = r })

outcome_again : (o : Outcome) → outcome_back (outcome_told o) ≡ o
unfolding outcome_told
outcome_again outcome.Finished = refl
outcome_again outcome.OutOfSteps = refl
outcome_again (outcome.Full r) = refl

abbrev answer_back : running.Ran → machine.Answer
answer_back a = record { outcome = outcome_back a.outcome; steps = a.steps; line = record { 0 = a.line } }

answer_again : (a : machine.Answer) → answer_back (answer_told a) ≡ a
unfolding answer_told
answer_again a = ap (λ (o : Outcome). record { outcome = o; steps = a.steps; line = a.line }) (outcome_again a.outcome)

pub runs_apart : (r s : Result machine.Answer Refusal) → ran_told r ≡ ran_told s → r ≡ s
runs_apart = answers_apart answer_told answer_back answer_again

abbrev state_back : running.State → State
state_back s = record { line = record { 0 = s.line }; regs = s.registers }

state_again : (s : State) → state_back (state_told s) ≡ s
unfolding state_told
state_again s = refl

pub states_apart : (s t : State) → state_told s ≡ state_told t → s ≡ t
states_apart = apart state_told state_back state_again
