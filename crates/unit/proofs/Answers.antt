-- The answers of a run and of a bench step: one law for each way out.
-- A test that finds its fault gives the call's refusal; where all pass, the call answers how the run of the book's program ends. Assumes nothing.
use Rattle.std.specs.Prelude.{Result, Ok, Err}
use Prim.Native.Nat.{ℕ, ◌<◌, ◌≤◌}
use mathlib.Core.Path.{◌≡◌, refl, sym, ◌∙◌, ap}
use mathlib.Core.Logic.{◌≢◌}
use mathlib.Core.List.{List}
use lib.ListN.{length}
use Rattle.scope.specs.Words.{◌is_not◌, ◌above◌, if}
use Rattle.scope.specs.Refusals as paper
use Rattle.scope.specs.Refusals.{NOT_FLAT, REGISTERS, LINE, refuse, refusal, accepted, call_of, answer_of, ◌and_then◌}
use Rattle.scope.specs.Book.{Counts, routines, lines, book_verdict, check_answer}
use Rattle.scope.specs.Steps.{register_count, Registers, End}
use Rattle.scope.specs.Running.{program_of, flat_run, run_verdict, ran, run_call, state, bench_verdict, bench_call}
use Rattle.scope.specs.GivenByCalls.{GivenRunning, running_the_book, running_NOT_FLAT, running_REGISTERS, running_LINE}
use Rattle.scope.proofs.Verdicts.{no_fault, is_not_tells, goes_on, accepted_only_where_passed, refused_exactly_when, call_where_passed, refusal_writes_nothing}
use Rattle.scope.proofs.GivenExactlyWhen.{given_exactly_when}
use Rattle.scope.proofs.GivenByCalls.{running_passes}
use Rattle.scope.proofs.Answers.{run_refused_exactly}
use Rattle.book.specs.declared.header.Counts as header
use Rattle.book.specs.declared.refusals.Refusal.{Refusal}
use Rattle.book.specs.Told as book
use Rattle.book.specs.Told.{refusal_told}
use Rattle.book.specs.Asked.{TakenWith}
use Rattle.book.proofs.Answers.{checked_refused}
use Rattle.unit.specs.declared.machine.Answer.{Answer}
use Rattle.unit.specs.declared.State.{State}
use Rattle.unit.specs.Told.{end_told, answer_told, ran_told, state_told}

-- ---- running

module _ (b : List ℕ) (start budget : ℕ) (rs : Registers) where
  refused_with : (x : Refusal) {y : paper.Refusal} → refusal_told x ≡ y → GivenRunning b (length rs ≢ register_count) start y
      → record { answer = ran_told (Err x); left = rs } ≡ run_call b start rs budget
  unfolding book.result_told
  refused_with x s g = rw s (sym ((run_refused_exactly b start rs budget _).1 g))

  pub book_refused : {A : Type 0} (told : A → Counts) (k : Result A Refusal) {x : Refusal} → book.result_told told k ≡ check_answer b → k ≡ Err x
      → record { answer = ran_told (Err x); left = rs } ≡ run_call b start rs budget
  book_refused told k {x} s e = refused_with x refl (running_the_book ((given_exactly_when b _).0 (checked_refused b told k s e)))

  module _ (c : header.Counts) (t : TakenWith b c) where
    pub not_flat : (x : Refusal) → refusal_told x ≡ refusal NOT_FLAT 0 → 1 < c.routines
        → record { answer = ran_told (Err x); left = rs } ≡ run_call b start rs budget
    not_flat x s h = refused_with x s (running_NOT_FLAT t.taken (rw (sym t.tabled.sized.counts.routines_are) h))

    module _ (one : c.routines ≤ 1) where
      flat : routines b ≤ 1
      flat = rw (sym t.tabled.sized.counts.routines_are) one

      pub not_32_registers : (x : Refusal) → refusal_told x ≡ refusal REGISTERS 0 → length rs ≢ register_count
          → record { answer = ran_told (Err x); left = rs } ≡ run_call b start rs budget
      not_32_registers x s h = refused_with x s (running_REGISTERS t.taken flat h)

      module _ (long : length rs ≡ register_count) (n : ℕ) (size : n ≡ c.lines) where
        same_n : n ≡ lines b
        same_n = size ∙ t.tabled.sized.counts.lines_are

        pub line_past_the_end : (x : Refusal) → refusal_told x ≡ refusal LINE 0 → n < start
            → record { answer = ran_told (Err x); left = rs } ≡ run_call b start rs budget
        line_past_the_end x s h = refused_with x s (running_LINE t.taken flat (λ w. w long) (rw (sym same_n) h))

        pub run_answers : (a : Answer) (rs' : Registers) → start ≤ n → end_told a rs' ≡ flat_run (program_of b) start budget rs
            → record { answer = ran_told (Ok a); left = rs' } ≡ run_call b start rs budget
        unfolding book.result_told answer_told end_told run_call ran
        run_answers a rs' h e =
            ap (λ (f : End ℕ). record { answer = accepted (ran f); left = f.registers }) e
            ∙ sym (call_where_passed _ _ rs (running_passes b start (no_fault (is_not_tells (length rs) register_count)) t.taken flat (λ w. w long) (rw (sym same_n) h)))

-- ---- the bench step

-- With 32 registers, what is tested before a bench step is what is tested before a run.
module _ (b : List ℕ) (line : ℕ) (rs : Registers) (long : length rs ≡ register_count) where
  tested_alike : run_verdict b (length rs is_not register_count) line ≡ bench_verdict b line
  unfolding run_verdict bench_verdict
  tested_alike =
      ap (λ v. book_verdict b and_then if (routines b above 1) (refuse (refusal NOT_FLAT 0)) v) (goes_on _ _ (is_not_tells (length rs) register_count) long)

module _ (b : List ℕ) (s : State) (r : Result Answer Refusal) (rs' : Registers)
    (told : record { answer = ran_told r; left = rs' } ≡ run_call b s.line.0 s.regs 1)
    (now_32 : length rs' ≡ register_count) (as_many : length rs' ≡ length s.regs) where
  long : length s.regs ≡ register_count
  long = sym as_many ∙ now_32

  abbrev ended : End ℕ
  ended = flat_run (program_of b) s.line.0 1 s.regs

  answered : ran_told r ≡ answer_of (bench_verdict b s.line.0) (ran ended)
  unfolding run_call call_of
  answered =
      ap (λ c. c.answer) told ∙ ap (λ v. answer_of v (ran ended)) (tested_alike b s.line.0 s.regs long)

  pub step_refused : {x : Refusal} → r ≡ Err x
      → record { answer = ran_told r; left = state_told s } ≡ bench_call b (state_told s)
  unfolding book.result_told bench_call state_told
  step_refused e =
      ap (λ q. record { answer = ran_told q; left = state_told s }) e
      ∙ sym (refusal_writes_nothing _ _ (state_told s) ((refused_exactly_when _ _ _).0 (sym answered ∙ ap ran_told e)))

  pub step_made : {a : Answer} → r ≡ Ok a
      → record { answer = ran_told (Ok a); left = state_told (record { line = a.line; regs = rs' }) } ≡ bench_call b (state_told s)
  unfolding book.result_told answer_told bench_call state_told state ran run_call
  step_made {a} e =
      let (passes, same) = accepted_only_where_passed (bench_verdict b s.line.0) (sym answered ∙ ap ran_told e) in
      let runs = tested_alike b s.line.0 s.regs long ∙ passes in
      let kept : rs' ≡ ended.registers = ap (λ c. c.left) (told ∙ call_where_passed (ran ended) ended.registers s.regs runs) in
      let there : record { line = a.line.0; registers = rs' } ≡ state ended =
      λ i. record { line = (sym same i).line; registers = kept i } in
      sym (call_where_passed (ran ended) (state ended) (state_told s) passes ∙ λ i. record { answer = accepted (same i); left = sym there i })
