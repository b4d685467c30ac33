-- Document 01, "Running", said of the machine of source document 000, chapter 1: what a step and a run of ours are among its transitions.
-- .. Its machine has endless registers without an upper end; ours has 32 of 0 to 65,535. Assumes nothing.
use Rattle.std.specs.Prelude.{ℕ, suc, ◌≤◌, ◌<◌, ◌≡◌, ◌≢◌, ◌↔◌, length, get_or}
use Rattle.scope.specs.Refusals.{accepted, Call}
use Rattle.scope.specs.Ram.{Instruction, INC, DEC, GO_TO, Program, Has, TargetsWithin, Configuration, Final, GoesTo}
use Rattle.scope.specs.Steps.{register_count, top, Registers, ValuesWithin, at_the_end, before_full, goes_to, Outcome, FINISHED, OUT_OF_STEPS, FULL, End}
use Rattle.scope.specs.Running.{flat_next, Ran, ran, State, state}

-- ---- our machine among the source's

-- Our registers are the first ones of its endless row. What stands from register 32 on is `beyond`.
unfoldable pub configuration : (beyond : ℕ → ℕ) (line : ℕ) → Registers → Configuration
configuration beyond line rs = record { registers = λ j. get_or rs j (beyond j); pc = line }

-- A program of our machine names only our registers, 0 to 31, and its targets are lines 0 to n.
unfoldable pub RegisterWithin : ℕ → Instruction → Type 0
RegisterWithin n (INC j) = j < n
RegisterWithin n (DEC j l) = j < n
RegisterWithin n (GO_TO l) = Unit {0}

unfoldable pub RegistersWithin : ℕ → Program → Type 0
RegistersWithin n P = (p : ℕ) (I : Instruction) → Has P p I → RegisterWithin n I

pub record OurProgram (P : Program) : Type 0 where
  pub registers_within : RegistersWithin register_count P
  pub targets_within : TargetsWithin P

-- ---- a step

-- FULL: INC of a register at 65,535
pub record Full (P : Program) (c : Configuration) (j : ℕ) : Type 0 where
  pub before_INC : Has P c.pc (INC j)
  pub at_the_top : c.registers j ≡ top

-- The transition from c would leave register j, one of our 32, above 65,535.
pub record Overflows (P : Program) (c : Configuration) (j : ℕ) : Type 0 where
  pub after : Configuration
  pub transition : GoesTo P c after
  pub one_of_ours : j < register_count
  pub above_the_top : top < after.registers j

-- What our step is, at a line and with these registers, whatever stands beyond them:
pub record StepIsTransition (P : Program) (beyond : ℕ → ℕ) (line : ℕ) (rs : Registers) : Type 0 where
  -- it is at the end exactly where the configuration is final, at line n;
  pub at_the_end_exactly : (flat_next P line rs ≡ at_the_end) ↔ Final P (configuration beyond line rs)
  -- where it goes somewhere, that is the one transition, our registers are again 32, the line is again one of 0 to n,
  pub is_the_transition :
      {p' : ℕ} {rs' : Registers} → flat_next P line rs ≡ goes_to p' rs'
      → (d : Configuration) → GoesTo P (configuration beyond line rs) d ↔ (d ≡ configuration beyond p' rs')
  pub registers_again : {p' : ℕ} {rs' : Registers} → flat_next P line rs ≡ goes_to p' rs' → length rs' ≡ register_count
  pub line_again : {p' : ℕ} {rs' : Registers} → flat_next P line rs ≡ goes_to p' rs' → p' ≤ length P
  -- and values of 0 to 65,535 are again such;
  pub values_again : {p' : ℕ} {rs' : Registers} → ValuesWithin rs → flat_next P line rs ≡ goes_to p' rs' → ValuesWithin rs'
  -- it is before a full register exactly where the transition would leave that register above 65,535.
  pub before_full_exactly :
      ValuesWithin rs → (j : ℕ) → (flat_next P line rs ≡ before_full j) ↔ Overflows P (configuration beyond line rs) j

-- ---- a run

-- s transitions lead from c to d. None of the configurations before d is final or before a full register.
pub data Leads (P : Program) : (s : ℕ) → (c d : Configuration) → Type 0 where
  here : {c : Configuration} → Leads P 0 c c
  one_more :
      {s : ℕ} {c d e : Configuration} → ¬ Final P c → ((j : ℕ) → ¬ Full P c j) → GoesTo P c d → Leads P s d e → Leads P (suc s) c e

-- Why a run ends at c after s steps: .., in this order: at line n, FINISHED; budget used up, OUT OF STEPS; INC of a register at 65,535, FULL
pub data Reason (P : Program) (budget s : ℕ) (c : Configuration) : Outcome → Type 0 where
  finished : Final P c → Reason P budget s c FINISHED
  out_of_steps : ¬ Final P c → s ≡ budget → Reason P budget s c OUT_OF_STEPS
  full : {j : ℕ} → ¬ Final P c → s ≢ budget → Full P c j → Reason P budget s c (FULL j)

-- A run ends so: the steps done lead to the line reached and what the registers hold, and there is a reason to end there and not before.
pub record RunEnds (P : Program) (beyond : ℕ → ℕ) (start : ℕ) (rs : Registers) (budget : ℕ) (e : End ℕ) : Type 0 where
  pub registers_again : length e.registers ≡ register_count
  pub leads : Leads P e.steps (configuration beyond start rs) (configuration beyond e.place e.registers)
  pub within : e.steps ≤ budget
  pub reason : Reason P budget e.steps (configuration beyond e.place e.registers) e.outcome

-- What a run that ends so answers, and leaves in the registers that it was lent.
abbrev pub run_answering : End ℕ → Call Ran Registers
run_answering e = record { answer = accepted (ran e); left = e.registers }

-- What a bench step that ends so answers, and leaves in the state that it was lent.
abbrev pub bench_answering : End ℕ → Call Ran State
bench_answering e = record { answer = accepted (ran e); left = state e }
