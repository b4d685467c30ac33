-- Demand 3 on bytes: for every taken book and every routine of it that flattens, its flat book can be run and ends as the nested reading says.
-- The flat book is taken and says the flat program, and a taken book's callees lie below their callers. Assumes nothing.
use Prim.Native.Nat.{ℕ, ◌≤◌}
use mathlib.Core.Bool.{true}
use mathlib.Core.Path.{◌≡◌}
use mathlib.Core.List.{List}
use native.Mathlib.Omega.{arith}
use lib.ListN.{length}
use Rattle.scope.specs.Words.{◌is_not◌}
use Rattle.scope.specs.Refusals.{accepted, pass}
use Rattle.scope.specs.Book.{book_of}
use Rattle.scope.specs.Steps.{register_count, Registers, ValuesWithin}
use Rattle.scope.specs.Nested.{nested_run}
use Rattle.scope.specs.Flattening.{flat_program, flat_book}
use Rattle.scope.specs.Running.{flat_run, program_of, ran, run_verdict, run_call}
use Rattle.scope.specs.Quote.{steady, quote, quote_answer}
use Rattle.scope.specs.Addresses.{SameEnd}
use Rattle.scope.specs.Enough.{EndsWithin, AnswersWithin}
use Rattle.scope.specs.GivenByCalls.{Flattens}
use Rattle.scope.proofs.Verdicts.{no_fault, is_not_tells, call_where_passed}
use Rattle.scope.proofs.SteadyWords.{steady_exactly}
use Rattle.scope.proofs.GivenByCalls.{running_passes}
use Rattle.scope.proofs.Answers.{quote_accepts_only}
use Rattle.scope.proofs.TakenBook.{taken_callees_below}
use Rattle.scope.proofs.Simulation.{simulation}
use Rattle.scope.proofs.QuoteEnough.{quote_enough}
use Rattle.scope.proofs.FlatBook.{flat_book_is_taken}

module _ (b : List ℕ) (k : ℕ) (flattens : Flattens b k) where
  -- the program that the bytes of the flat book say
  its_program : program_of (flat_book (flat_program (book_of b) k)) ≡ flat_program (book_of b) k
  its_program = (flat_book_is_taken b flattens.taken k flattens.not_too_long).its_program

  -- It is not refused, ..
  pub flattened_can_be_run :
      (rs : Registers) → length rs ≡ register_count
      → run_verdict (flat_book (flat_program (book_of b) k)) (length rs is_not register_count) 0 ≡ pass
  flattened_can_be_run rs len =
      let says = flat_book_is_taken b flattens.taken k flattens.not_too_long in
      running_passes (flat_book (flat_program (book_of b) k)) 0 (no_fault (is_not_tells (length rs) register_count)) says.taken
      (omega (arith, says.one_routine)) (λ n. n len) (omega arith)

  -- .. and the flat run of it from line 0 ends as the nested reading says: same outcome, steps and registers, and at the address of its place.
  pub flattened_runs_as_nested :
      (budget : ℕ) (rs : Registers)
      → SameEnd (book_of b) k (flat_run (program_of (flat_book (flat_program (book_of b) k))) 0 budget rs) (nested_run (book_of b) k budget rs)
  flattened_runs_as_nested budget rs = rw its_program (simulation (book_of b) (taken_callees_below b flattens.taken) k budget rs)

  -- If the routine is steady, a budget of at least the quote is enough.
  pub flattened_quote_is_enough :
      steady (book_of b) k ≡ true → (budget : ℕ) (rs : Registers) → ValuesWithin rs → quote (book_of b) k ≤ budget
      → EndsWithin (quote (book_of b) k) (flat_run (program_of (flat_book (flat_program (book_of b) k))) 0 budget rs)
  flattened_quote_is_enough s budget rs low h =
      rw its_program (quote_enough (book_of b) (taken_callees_below b flattens.taken) k budget rs s low h).flat

-- What the calls answer: where a routine is quoted with q, a run of its flat book from line 0 with a budget of at least q is not refused, and
-- ends by itself after at most q steps.
pub quoted_run_ends :
    (b : List ℕ) (k q : ℕ) → quote_answer b k ≡ accepted q → (budget : ℕ) (rs : Registers) → length rs ≡ register_count → ValuesWithin rs
    → q ≤ budget → AnswersWithin q (run_call (flat_book (flat_program (book_of b) k)) 0 rs budget)
unfolding run_call
quoted_run_ends b k q quoted budget rs len low h =
    let (w, same) = quote_accepts_only b k q quoted in
    let f = w.flattens in
    let is_steady = (steady_exactly (book_of b) (taken_callees_below b f.taken) k).1 w.a_steady_one in
    let e = flat_run (program_of (flat_book (flat_program (book_of b) k))) 0 budget rs in
    record {
      end = e;
      answers = call_where_passed (ran e) e.registers rs (flattened_can_be_run b k f rs len);
      ends = rw same at (flattened_quote_is_enough b k f is_steady budget rs low (omega (arith, same, h)));
    }
