-- A taken book of one routine says a program of our machine, of L lines; so its steps are transitions, and its runs end exactly where they lead.
-- No routine lies below its only one, so it has no CALL and no REPEAT, and its lines are the lines of the book. Assumes nothing.
use Prim.Native.Nat.{ℕ, suc, ◌≤◌, ◌<◌}
use mathlib.Core.Path.{◌≡◌, ◌∙◌}
use mathlib.Core.Logic.{◌↔◌, ◌≢◌, inl, inr}
use mathlib.Core.List.{List, ◌∷◌}
use native.Mathlib.Omega.{arith}
use lib.ListN.{length, get_or, drop}
use lib.Seq.{drop-cons}
use Rattle.scope.specs.Ram.{Instruction, Has, has, TargetWithin, TargetsWithin}
use Rattle.scope.specs.Book.{routines, lines, first_line, first_line_due, count, LineFields, INC_kind, DEC_kind, CALL_kind, REPEAT_kind, fields_at, line_number, fields_in, Taken}
use Rattle.scope.specs.Given.{HasTarget, HasCallee}
use Rattle.scope.specs.Steps.{register_count, Registers, ByItself, End}
use Rattle.scope.specs.Running.{flat_run, instruction_of, program_of}
use Rattle.scope.specs.Transitions.{RegisterWithin, RegistersWithin, OurProgram, StepIsTransition, RunEnds}
use Rattle.scope.proofs.Verdicts.{is_tells, either_way}
use Rattle.scope.proofs.Lists.{length_listed, listed_at, listed_stands}
use Rattle.scope.proofs.TakenBook.{TakenLine, taken_book}
use Rattle.scope.proofs.Ram.{has_below}
use Rattle.scope.proofs.StepIsRam.{step_is_ram}
use Rattle.scope.proofs.RunExactly.{run_exactly, more_budget}

-- ---- its program

pub length_program_of : (b : List ℕ) → length (program_of b) ≡ lines b
unfolding program_of
length_program_of b = length_listed _ 0 (lines b)

-- Flat line p stands at p, and behind it the lines after it.
pub program_stands : (b : List ℕ) (p : ℕ) → p < lines b
    → drop p (program_of b) ≡ instruction_of (fields_at b p) ∷ drop (suc p) (program_of b)
unfolding program_of
program_stands b p h = listed_stands (λ i. instruction_of (fields_at b i)) (lines b) p h

instruction_at : (b : List ℕ) (p : ℕ) {I : Instruction} → Has (program_of b) p I → I ≡ instruction_of (fields_at b p)
unfolding program_of
instruction_at b p {I} (has e) =
    let l : p < length (program_of b) = has_below (has e) in
    let s = drop-cons (program_of b) p I l in
    let z : I ≡ get_or (program_of b) p I = cc in
    z ∙ listed_at (λ i. instruction_of (fields_at b i)) 0 (lines b) p p I (omega (arith, length_program_of b)) (omega arith)

-- a line of routine 0, which has n lines, as an instruction
fits : (f : LineFields) (n : ℕ) → TakenLine f 0 n → RegisterWithin register_count (instruction_of f) × TargetWithin n (instruction_of f)
unfolding instruction_of RegisterWithin TargetWithin HasTarget HasCallee
fits f n t =
    either_way Fits (is_tells f.kind INC_kind) (λ i. (omega (arith, t.register_to_31), tt)) λ n1.
    either_way Fits (is_tells f.kind DEC_kind) (λ i. (omega (arith, t.register_to_31), t.target_to_the_end (inl i))) λ n2.
    (tt, t.target_to_the_end (inr (omega (arith, t.kind_from_1, t.kind_to_5, no_CALL, no_REPEAT))))
  where
    Fits : Instruction → Type 0
    Fits I = RegisterWithin register_count I × TargetWithin n I

    no_CALL : f.kind ≢ CALL_kind
    no_CALL e = omega (arith, t.callee_below (inl e))

    no_REPEAT : f.kind ≢ REPEAT_kind
    no_REPEAT e = omega (arith, t.callee_below (inr e))

module _ (b : List ℕ) (taken : Taken b) (flat : routines b ≡ 1) where
  pub starts_at_0 : first_line b 0 ≡ 0
  unfolding first_line_due
  starts_at_0 = (taken_book b taken).starts_where_due 0 (taken_book b taken).header.some_routine

  pub counts_all : count b 0 ≡ lines b
  unfolding first_line_due
  counts_all = omega (arith, starts_at_0, (rw flat at (taken_book b taken).last_ends_at_L))

  pub line_of_the_book : (p : ℕ) → p < lines b → TakenLine (fields_at b p) 0 (lines b)
  unfolding fields_in line_number
  line_of_the_book p h =
      let k = taken_book b taken in
      let same : line_number b 0 p ≡ p = omega (arith, starts_at_0) in
      rw (same, counts_all) at (k.lines_right 0 p k.header.some_routine (omega (arith, counts_all)))

  pub instruction_within : (p : ℕ) → p < lines b
      → RegisterWithin register_count (instruction_of (fields_at b p)) × TargetWithin (lines b) (instruction_of (fields_at b p))
  instruction_within p h = fits (fields_at b p) (lines b) (line_of_the_book p h)

  pub taken_program : OurProgram (program_of b)
  unfolding RegistersWithin TargetsWithin
  taken_program = record { registers_within = λ p I h. (each p h).0; targets_within = λ p I h. (each p h).1 }
    where
      each : (p : ℕ) {I : Instruction} → Has (program_of b) p I → RegisterWithin register_count I × TargetWithin (length (program_of b)) I
      each p h =
          rw (instruction_at b p h, length_program_of b)
          (instruction_within p (omega (arith, has_below h, length_program_of b)))

  inside : {line : ℕ} → line ≤ lines b → line ≤ length (program_of b)
  inside h = rw (length_program_of b) h

  -- ---- its steps and its runs

  pub taken_step_is_ram :
      (beyond : ℕ → ℕ) (line : ℕ) (rs : Registers) → length rs ≡ register_count → line ≤ lines b → StepIsTransition (program_of b) beyond line rs
  taken_step_is_ram beyond line rs len h = step_is_ram taken_program beyond line rs len (inside h)

  pub taken_run_exactly :
      (beyond : ℕ → ℕ) (start budget : ℕ) (rs : Registers) (e : End ℕ) → length rs ≡ register_count → start ≤ lines b
      → (flat_run (program_of b) start budget rs ≡ e) ↔ RunEnds (program_of b) beyond start rs budget e
  taken_run_exactly beyond start budget rs e len h = run_exactly taken_program beyond start budget rs e len (inside h)

  pub taken_more_budget :
      (start budget budget' : ℕ) (rs : Registers) (e : End ℕ) → length rs ≡ register_count → start ≤ lines b
      → flat_run (program_of b) start budget rs ≡ e → ByItself e.outcome → budget ≤ budget' → flat_run (program_of b) start budget' rs ≡ e
  taken_more_budget start budget budget' rs e len h = more_budget taken_program start budget budget' rs e len (inside h)
