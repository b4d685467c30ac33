-- What the nested reading and the flat machine share: registers, what INC and DEC do to them, the outcomes, and the order of the three
-- tests before a step. Document 01 has them under "Running"; "Nested reading" says "as under Running". Assumes nothing.
use Rattle.std.specs.Prelude.{ℕ, zero, suc, ◌≤◌, List, get_or, set}
use Rattle.scope.specs.Words.{◌is◌, if}

-- ---- registers

-- .. ours has 32 of 0 to 65,535.
abbrev pub register_count : ℕ
register_count = 32

abbrev pub top : ℕ
top = 65535

abbrev pub Registers : Type 0
Registers = List ℕ

unfoldable pub value : Registers → (register : ℕ) → ℕ
value rs r = get_or rs r 0

unfoldable pub with_value : Registers → (register value : ℕ) → Registers
with_value rs r v = set rs r v

-- .. of 0 to 65,535
unfoldable pub ValuesWithin : Registers → Type 0
ValuesWithin rs = (j : ℕ) → value rs j ≤ top

-- ---- one step

-- What a machine does next at a place: nothing, it is at its end; or it stands before INC of a register at 65,535; or its step goes to a
-- place and leaves the registers so.
pub data Next (P : Type 0) : Type 0 where
  at_the_end : Next P
  before_full : (register : ℕ) → Next P
  goes_to : P → Registers → Next P

-- INC adds one and goes on.
unfoldable pub adds_one : {P : Type 0} → (register : ℕ) → Registers → (on : P) → Next P
adds_one r rs on = if (value rs r is top) (before_full r) (goes_to on (with_value rs r (suc (value rs r))))

-- DEC on a register above 0 takes one off and goes on; on 0 it goes to the target.
unfoldable pub takes_one_from : {P : Type 0} → (value register : ℕ) → Registers → (on target : P) → Next P
takes_one_from zero r rs on target = goes_to target rs
takes_one_from (suc v) r rs on target = goes_to on (with_value rs r v)

unfoldable pub takes_one_off : {P : Type 0} → (register : ℕ) → Registers → (on target : P) → Next P
takes_one_off r rs on target = takes_one_from (value rs r) r rs on target

-- ---- a run

-- The outcome carries the full register's number when it is FULL.
pub data Outcome : Type 0 where
  FINISHED OUT_OF_STEPS : Outcome
  FULL : (register : ℕ) → Outcome

-- FINISHED or FULL: a run ended by itself, and not for want of steps.
pub data ByItself : Outcome → Type 0 where
  itself_FINISHED : ByItself FINISHED
  itself_FULL : {r : ℕ} → ByItself (FULL r)

-- How a run ends: the outcome, the steps done, the place reached. Registers hold what those steps left.
pub record End (P : Type 0) : Type 0 where
  pub outcome : Outcome
  pub steps : ℕ
  pub place : P
  pub registers : Registers

abbrev pub end : {P : Type 0} → Outcome → (steps : ℕ) → P → Registers → End P
end o s p rs = record { outcome = o; steps = s; place = p; registers = rs }

module _ {P : Type 0} (next : P → Registers → Next P) where
  -- Before each step, in this order: at line n, FINISHED; budget used up, OUT OF STEPS; INC of a register at 65,535, FULL; else the step
  -- is done and counted.
  unfoldable pub run_on : (budget_left steps_done : ℕ) → P → Registers → Next P → End P
  run_on zero s p rs at_the_end = end FINISHED s p rs
  run_on zero s p rs (before_full r) = end OUT_OF_STEPS s p rs
  run_on zero s p rs (goes_to p' rs') = end OUT_OF_STEPS s p rs
  run_on (suc left) s p rs at_the_end = end FINISHED s p rs
  run_on (suc left) s p rs (before_full r) = end (FULL r) s p rs
  run_on (suc left) s p rs (goes_to p' rs') = run_on left (suc s) p' rs' (next p' rs')

  unfoldable pub run_from : (budget : ℕ) → P → Registers → End P
  run_from budget p rs = run_on budget 0 p rs (next p rs)
