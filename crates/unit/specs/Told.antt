-- What each answer of the unit tells, in document 01's names and values: one clause a case. Refusals are told as `book` tells them. And
-- what the machine's step comes to, with the registers that it leaves. Assumes nothing.
use Rattle.std.specs.Prelude.{ℕ, Result, Ok, Err}
use Rattle.scope.specs.Refusals.{Answer}
use Rattle.scope.specs.Steps as paper
use Rattle.scope.specs.Steps.{Registers, End, before_full, goes_to, at_the_end}
use Rattle.scope.specs.Running as running
use Rattle.book.specs.declared.lines.Reg.{Reg}
use Rattle.book.specs.declared.flat.FlatLine.{FlatLine}
use Rattle.book.specs.declared.refusals.Refusal.{Refusal}
use Rattle.book.specs.Told as book
use Rattle.unit.specs.declared.machine.Outcome.{Outcome}
use Rattle.unit.specs.declared.machine.Outcome.TheVariants as outcome
use Rattle.unit.specs.declared.machine.Answer as machine
use Rattle.unit.specs.declared.State.{State}

-- ---- one step

-- with what it left in the registers
unfoldable pub next_told : Result FlatLine Reg → Registers → paper.Next ℕ
next_told (Ok l) rs = goes_to l.0 rs
next_told (Err r) rs = before_full r.0

-- What the machine does next, and what then stands in the registers: where no step was made, what stood there.
pub record Did : Type 0 where
  pub next : paper.Next ℕ
  pub left : Registers

unfoldable pub did : paper.Next ℕ → Registers → Did
did at_the_end rs = record { next = at_the_end; left = rs }
did (before_full r) rs = record { next = before_full r; left = rs }
did (goes_to l rs') rs = record { next = goes_to l rs'; left = rs' }

-- ---- a run

unfoldable pub outcome_told : Outcome → paper.Outcome
outcome_told outcome.Finished = paper.FINISHED
outcome_told outcome.OutOfSteps = paper.OUT_OF_STEPS
outcome_told (outcome.Full r) = paper.FULL r.0

-- with what it left in the registers
unfoldable pub end_told : machine.Answer → Registers → End ℕ
end_told a rs = record { outcome = outcome_told a.outcome; steps = a.steps; place = a.line.0; registers = rs }

unfoldable pub answer_told : machine.Answer → running.Ran
answer_told a = record { outcome = outcome_told a.outcome; steps = a.steps; line = a.line.0 }

abbrev pub ran_told : Result machine.Answer Refusal → Answer running.Ran
ran_told = book.result_told answer_told

-- ---- the bench step

unfoldable pub state_told : State → running.State
state_told s = record { line = s.line.0; registers = s.regs }
