-- The run's loop: at every turn the rest of the run, with what is left of the budget, ends as the whole run does.
-- A turn at n, without budget or before a full register is where the definitions end the run; any other is one step of it. Assumes nothing.
use Rattle.std.specs.Prelude.{Result, Ok, Err}
use Prim.Native.Nat.{ℕ, zero, suc, ◌+◌, ◌-◌, ◌<◌, ◌≤◌}
use native.Mathlib.Omega.{arith}
use native.Mathlib.Numerals.{add-one}
use mathlib.Core.Path.{◌≡◌, refl, sym, ◌∙◌, ap}
use mathlib.Core.Logic.{◌≢◌}
use mathlib.Core.List.{List, [], ◌∷◌}
use lib.ListN.{length}
use Rattle.scope.specs.Ram as ram
use Rattle.scope.specs.Ram.{Program, Final}
use Rattle.scope.specs.Book.{routines, lines, most_lines, fields_at}
use Rattle.scope.specs.Steps.{register_count, Registers, Next, at_the_end, before_full, goes_to, FINISHED, OUT_OF_STEPS, FULL, End, end, run_on, run_from}
use Rattle.scope.specs.Running.{flat_step, flat_next, flat_run, instruction_of, program_of}
use Rattle.scope.specs.Transitions.{configuration, RegisterWithin, StepIsTransition}
use Rattle.scope.proofs.TakenProgram.{length_program_of, instruction_within, taken_step_is_ram}
use Rattle.book.specs.declared.header.Counts.{Counts}
use Rattle.book.specs.declared.lines.Reg.{Reg}
use Rattle.book.specs.declared.flat.FlatLine.{FlatLine}
use Rattle.book.specs.declared.flat.Instruction.{Instruction}
use Rattle.book.specs.Told.{instruction_told}
use Rattle.book.specs.Asked.{LineWithin, TakenWith}
use Rattle.book.proofs.Fits.{flat_line_within, flat_line_stands}
use Rattle.unit.specs.declared.machine.Outcome.{Outcome}
use Rattle.unit.specs.declared.machine.Outcome.TheVariants as outcome
use Rattle.unit.specs.declared.machine.Answer.{Answer}
use Rattle.unit.specs.Told.{did, next_told, outcome_told, end_told}

-- ---- the definitions' run, a turn at a time

module _ {P : Type 0} (next : P → Registers → Next P) (s : ℕ) (p : P) (rs : Registers) where
  ends_at_the_end : (left : ℕ) → run_on next left s p rs at_the_end ≡ end FINISHED s p rs
  unfolding run_on
  ends_at_the_end zero = refl
  ends_at_the_end (suc left) = refl

  ends_without_budget : (n : Next P) → n ≢ at_the_end → run_on next 0 s p rs n ≡ end OUT_OF_STEPS s p rs
  unfolding run_on
  ends_without_budget at_the_end h = absurd (h refl)
  ends_without_budget (before_full r) h = refl
  ends_without_budget (goes_to p' rs') h = refl

  ends_before_full : (left r : ℕ) → left ≢ 0 → run_on next left s p rs (before_full r) ≡ end (FULL r) s p rs
  unfolding run_on
  ends_before_full zero r h = absurd (h refl)
  ends_before_full (suc left) r h = refl

  one_step : (left left' : ℕ) (p' : P) (rs' : Registers) → left ≡ suc left'
      → run_on next left s p rs (goes_to p' rs') ≡ run_on next left' (suc s) p' rs' (next p' rs')
  unfolding run_on
  one_step left left' p' rs' e = rw e refl

-- ---- what `does` says

did_next : (n : Next ℕ) (rs : Registers) → (did n rs).next ≡ n
unfolding did
did_next at_the_end rs = refl
did_next (before_full r) rs = refl
did_next (goes_to l rs') rs = refl

module _ (a n : Next ℕ) (rs rs' : Registers) (e : record { next = a; left = rs' } ≡ did n rs) where
  next_is : n ≡ a
  next_is = sym (did_next n rs) ∙ ap (λ d. d.next) (sym e)

  full_leaves_all : {r : ℕ} → a ≡ before_full r → rs' ≡ rs
  unfolding did
  full_leaves_all f =
      let g = next_is ∙ f in
      ap (λ d. d.left) e ∙ ap (λ m. (did m rs).left) g

-- one instruction, whatever stands behind it
only_the_first : (l : ℕ) (x : ram.Instruction) (xs : Program) (rs : Registers) → flat_step l (x ∷ xs) rs ≡ flat_step l (x ∷ []) rs
unfolding flat_step
only_the_first l (ram.INC r) xs rs = refl
only_the_first l (ram.DEC r t) xs rs = refl
only_the_first l (ram.GO_TO t) xs rs = refl

-- ---- the loop

pub record Keeps (b : List ℕ) (n budget line₀ : ℕ) (rs₀ : Registers) (line steps : ℕ) (rs : Registers) : Type 0 where
  pub within : line ≤ n
  pub used : steps ≤ budget
  pub long : length rs ≡ register_count
  pub as_the_whole :
      run_on (flat_next (program_of b)) (budget - steps) steps line rs (flat_next (program_of b) line rs)
      ≡ flat_run (program_of b) line₀ budget rs₀

pub nothing_done : (b : List ℕ) (n budget line₀ : ℕ) (rs₀ : Registers) → line₀ ≤ n → length rs₀ ≡ register_count → Keeps b n budget line₀ rs₀ line₀ 0 rs₀
unfolding flat_run run_from
nothing_done b n budget line₀ rs₀ h len =
    let all : budget - 0 ≡ budget = omega arith in
    record { within = h; used = omega arith; long = len; as_the_whole = rw all refl }

module _ (b : List ℕ) (c : Counts) (t : TakenWith b c) (one : c.routines ≤ 1) (n budget line₀ line steps : ℕ) (rs₀ rs : Registers)
    (size : n ≡ c.lines) (k : Keeps b n budget line₀ rs₀ line steps rs) where
  flat : routines b ≡ 1
  flat = omega (arith, t.tabled.sized.counts.routines_are, t.tabled.sized.some_routine)

  same_n : n ≡ lines b
  same_n = size ∙ t.tabled.sized.counts.lines_are

  step : StepIsTransition (program_of b) (λ j. 0) line rs
  step = taken_step_is_ram b t.taken flat (λ j. 0) line rs k.long (rw (sym same_n) k.within)

  abbrev whole : End ℕ
  whole = flat_run (program_of b) line₀ budget rs₀

  -- what is answered where the run ends here
  abbrev answering : Outcome → Answer
  answering o = record { outcome = o; steps = steps; line = record { 0 = line } }

  pub run_is_finished : (a : Answer) → a ≡ answering outcome.Finished → line ≡ n → end_told a rs ≡ whole
  unfolding end_told outcome_told Final configuration
  run_is_finished a f e =
      let last = step.at_the_end_exactly.1 (e ∙ same_n ∙ sym (length_program_of b)) in
      ap (λ y. end_told y rs) f
      ∙ sym (ends_at_the_end (flat_next (program_of b)) steps line rs (budget - steps))
      ∙ ap (run_on (flat_next (program_of b)) (budget - steps) steps line rs) (sym last)
      ∙ k.as_the_whole

  module _ (on : line ≢ n) where
    pub run_is_out_of_steps : (a : Answer) → a ≡ answering outcome.OutOfSteps → steps ≡ budget → end_told a rs ≡ whole
    unfolding end_told outcome_told Final configuration
    run_is_out_of_steps a f e =
        let none : budget - steps ≡ 0 = omega arith in
        let not_at_n : flat_next (program_of b) line rs ≢ at_the_end = λ z. on (step.at_the_end_exactly.0 z ∙ length_program_of b ∙ sym same_n) in
        ap (λ y. end_told y rs) f
        ∙ sym (ends_without_budget (flat_next (program_of b)) steps line rs (flat_next (program_of b) line rs) not_at_n)
        ∙ (rw none at k.as_the_whole)

    before_n : line < c.lines
    before_n = omega (arith, k.within)

    pub line_there : LineWithin b 1 line
    line_there = flat_line_within b c t line one before_n

    pub line_below_the_most : line < most_lines
    line_below_the_most = omega (arith, before_n, t.tabled.sized.lines_to_4096)

    module _ (x : Instruction) (reads : instruction_told x ≡ instruction_of (fields_at b line)) where
      pub register_there : RegisterWithin (length rs) (instruction_told x)
      register_there = rw (k.long, reads) (instruction_within b t.taken flat line (rw (sym same_n) (omega arith))).0

      module _ (due : steps ≢ budget) (m : Result FlatLine Reg) (rs' : Registers)
          (does : record { next = next_told m rs'; left = rs' } ≡ did (flat_step line (instruction_told x ∷ []) rs) rs) where
        next_at_line : flat_next (program_of b) line rs ≡ next_told m rs'
        unfolding flat_next
        next_at_line =
            ap (λ xs. flat_step line xs rs) (flat_line_stands b c t line one before_n x reads)
            ∙ only_the_first line (instruction_told x) _ rs
            ∙ next_is _ _ rs rs' does

        pub run_is_full : {g : Reg} (a : Answer) → a ≡ answering (outcome.Full g) → m ≡ Err g → end_told a rs' ≡ whole
        unfolding end_told outcome_told next_told
        run_is_full {g} a f e =
            let full : flat_next (program_of b) line rs ≡ before_full g.0 = next_at_line ∙ ap (λ y. next_told y rs') e in
            let stayed : rs' ≡ rs = full_leaves_all _ _ rs rs' does (ap (λ y. next_told y rs') e) in
            rw stayed
            (ap (λ y. end_told y rs) f
            ∙ sym (ends_before_full (flat_next (program_of b)) steps line rs (budget - steps) g.0 (λ z. due (omega (arith, z, k.used))))
            ∙ ap (run_on (flat_next (program_of b)) (budget - steps) steps line rs) (sym full)
            ∙ k.as_the_whole)

        pub run_goes_on : {u : FlatLine} (done : ℕ) → m ≡ Ok u → done ≡ steps + 1 → Keeps b n budget line₀ rs₀ u.0 done rs'
        unfolding next_told
        run_goes_on {u} done e counted =
            let goes : flat_next (program_of b) line rs ≡ goes_to u.0 rs' = next_at_line ∙ ap (λ y. next_told y rs') e in
            let one_more : done ≡ suc steps = counted ∙ add-one steps in
            let left : budget - steps ≡ suc (budget - suc steps) = omega (arith, due, k.used) in
            record {
              within = omega (arith, step.line_again goes, length_program_of b, same_n);
              used = omega (arith, due, k.used);
              long = step.registers_again goes;
              as_the_whole =
                  rw one_more (sym (one_step (flat_next (program_of b)) steps line rs (budget - steps) (budget - suc steps) u.0 rs' left)
                  ∙ ap (run_on (flat_next (program_of b)) (budget - steps) steps line rs) (sym goes)
                  ∙ k.as_the_whole);
            }

-- the three ways in which a run ends
pub ruleset ends = (run_is_finished, run_is_out_of_steps, run_is_full)
