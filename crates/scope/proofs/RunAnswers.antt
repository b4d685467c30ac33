-- What a run and a bench step of a taken flat book answer, and leave in what they were lent, is exactly where the transitions lead.
-- They are not refused, so they answer how the run of the book's program ends; a bench step is a run with a budget of 1.
use Prim.Native.Nat.{ℕ, ◌≤◌}
use native.Mathlib.Omega.{arith}
use mathlib.Core.Path.{◌≡◌, sym, ◌∙◌, ap}
use mathlib.Core.Logic.{◌↔◌}
use mathlib.Core.List.{List}
use lib.ListN.{length}
use Rattle.scope.specs.Refusals.{accepted}
use Rattle.scope.specs.Book.{routines, lines, Taken}
use Rattle.scope.specs.Steps.{register_count, Registers, End}
use Rattle.scope.specs.Running.{flat_run, program_of, Ran, ran, run_call, State, state, bench_call}
use Rattle.scope.specs.Transitions.{RunEnds, run_answering, bench_answering}
use Rattle.scope.proofs.Verdicts.{no_fault, is_not_tells, call_where_passed}
use Rattle.scope.proofs.GivenByCalls.{running_passes, bench_passes}
use Rattle.scope.proofs.TakenProgram.{taken_run_exactly}

-- ---- an answer says how the run ended

same_ran : {e f : End ℕ} → ran e ≡ ran f → e.registers ≡ f.registers → e ≡ f
unfolding ran
same_ran r l = λ i. record { outcome = (r i).outcome; steps = (r i).steps; place = (r i).line; registers = l i }

same_accepted : {r r' : Ran} → accepted r ≡ accepted r' → r ≡ r'
same_accepted e = cc

module _ (b : List ℕ) (taken : Taken b) (flat : routines b ≡ 1) (beyond : ℕ → ℕ) where
  -- The answer is (outcome, s, line, registers) exactly if s transitions lead there, ..
  pub run_answers_exactly :
      (start budget : ℕ) (rs : Registers) (e : End ℕ) → length rs ≡ register_count → start ≤ lines b
      → (run_call b start rs budget ≡ run_answering e) ↔ RunEnds (program_of b) beyond start rs budget e
  unfolding run_call
  run_answers_exactly start budget rs e len h =
      let ended = flat_run (program_of b) start budget rs in
      let passes =
      running_passes b start (no_fault (is_not_tells (length rs) register_count)) taken (omega (arith, flat)) (λ n. n len) h in
      let answers : run_call b start rs budget ≡ run_answering ended = call_where_passed (ran ended) ended.registers rs passes in
      let exactly = taken_run_exactly b taken flat beyond start budget rs e len h in (
        λ q.
            let same = sym answers ∙ q in
            exactly.0 (same_ran (same_accepted (ap (λ c. c.answer) same)) (ap (λ c. c.left) same)),
        λ r. answers ∙ ap run_answering (exactly.1 r),
      )

  -- .. and a bench step answers as a run with a budget of 1 from that state does.
  pub bench_answers_exactly :
      (s : State) (e : End ℕ) → length s.registers ≡ register_count → s.line ≤ lines b
      → (bench_call b s ≡ bench_answering e) ↔ RunEnds (program_of b) beyond s.line s.registers 1 e
  unfolding bench_call state
  bench_answers_exactly s e len h =
      let ended = flat_run (program_of b) s.line 1 s.registers in
      let passes = bench_passes b s.line taken (omega (arith, flat)) h in
      let answers : bench_call b s ≡ bench_answering ended = call_where_passed (ran ended) (state ended) s passes in
      let exactly = taken_run_exactly b taken flat beyond s.line 1 s.registers e len h in (
        λ q.
            let same = sym answers ∙ q in
            exactly.0 (same_ran (same_accepted (ap (λ c. c.answer) same)) (ap (λ c. c.left.registers) same)),
        λ r. answers ∙ ap bench_answering (exactly.1 r),
      )
