-- Document 01, "Running": the flat machine, a run of a flat book with a budget, and the bench step.
-- What INC and DEC do and the order of the tests before a step stand in `Steps`. Assumes nothing.
use Rattle.std.specs.Prelude.{ℕ, suc, Bool, List, [], ◌∷◌, length, drop}
use Rattle.scope.specs.Words.{◌is◌, ◌is_not◌, ◌above◌, if, listed}
use Rattle.scope.specs.Refusals.{NOT_FLAT, REGISTERS, LINE, Verdict, pass, refuse_if, ◌otherwise◌, ◌and_then◌, Call, call_of}
use Rattle.scope.specs.Ram.{Instruction, INC, DEC, GO_TO, Program}
use Rattle.scope.specs.Book.{routines, lines, LineFields, INC_kind, DEC_kind, fields_at, book_verdict}
use Rattle.scope.specs.Steps.{register_count, Registers, Next, at_the_end, goes_to, adds_one, takes_one_off, Outcome, End, run_from}

-- ---- the flat machine

-- what it does at a line, from which on these instructions stand: at line n there is none
unfoldable pub flat_step : (line : ℕ) → Program → Registers → Next ℕ
flat_step line [] rs = at_the_end
flat_step line (INC r ∷ xs) rs = adds_one r rs (suc line)
flat_step line (DEC r target ∷ xs) rs = takes_one_off r rs (suc line) target
flat_step line (GO_TO target ∷ xs) rs = goes_to target rs

unfoldable pub flat_next : Program → (line : ℕ) → Registers → Next ℕ
flat_next program line rs = flat_step line (drop line program) rs

unfoldable pub flat_run : Program → (start budget : ℕ) → Registers → End ℕ
flat_run program start budget rs = run_from (flat_next program) budget start rs

-- ---- the program that a flat book says

-- In a flat book each line is INC, DEC or GO TO: its one routine has none below it to CALL or REPEAT. (So what is left is GO TO.)
unfoldable pub instruction_of : LineFields → Instruction
instruction_of f =
    if (f.kind is INC_kind) (INC f.register)
    (if (f.kind is DEC_kind) (DEC f.register f.operand)
    (GO_TO f.operand))

unfoldable pub program_of : List ℕ → Program
program_of b = listed (λ i. instruction_of (fields_at b i)) 0 (lines b)

-- ---- running

-- Given a flat book, a start line (0 to n), 32 registers and a budget of 0 to 2^64-1. Then: .. running 15, 16, 17.
-- 15 NOT FLAT: more than one routine. 16 REGISTERS: lent registers are not 32. 17 LINE: start line .. above n
unfoldable pub run_verdict : (b : List ℕ) (not_32 : Bool) (start : ℕ) → Verdict
run_verdict b not_32 start =
    book_verdict b and_then
    refuse_if (routines b above 1) NOT_FLAT 0 otherwise
    refuse_if not_32 REGISTERS 0 otherwise
    refuse_if (start above lines b) LINE 0 otherwise
    pass

-- The answer has the outcome, the steps done and the line reached.
pub record Ran : Type 0 where
  pub outcome : Outcome
  pub steps : ℕ
  pub line : ℕ

unfoldable pub ran : End ℕ → Ran
ran e = record { outcome = e.outcome; steps = e.steps; line = e.place }

-- Registers hold what those steps left.
unfoldable pub run_call : (b : List ℕ) (start : ℕ) (registers : Registers) (budget : ℕ) → Call Ran Registers
run_call b start rs budget =
    let e = flat_run (program_of b) start budget rs in
    call_of (run_verdict b (length rs is_not register_count) start) (ran e) e.registers rs

-- ---- the bench step

-- The bench stepper is lent the unit's state, line and registers, and leaves the new state there.
pub record State : Type 0 where
  pub line : ℕ
  pub registers : Registers

unfoldable pub state : End ℕ → State
state e = record { line = e.place; registers = e.registers }

-- Then: .. bench step 15, 17. 17 LINE: .. state's line above n
unfoldable pub bench_verdict : (b : List ℕ) (line : ℕ) → Verdict
bench_verdict b line =
    book_verdict b and_then
    refuse_if (routines b above 1) NOT_FLAT 0 otherwise
    refuse_if (line above lines b) LINE 0 otherwise
    pass

-- It answers as a run with a budget of 1 from that state does.
unfoldable pub bench_call : (b : List ℕ) (s : State) → Call Ran State
bench_call b s =
    let e = flat_run (program_of b) s.line 1 s.registers in
    call_of (bench_verdict b s.line) (ran e) (state e) s
