-- The answers of the quote: one law for each way out.
-- A test that finds its fault gives the call's refusal; where all pass, the number in the row is the quote. Assumes nothing.
use mir.Syntax.{w64}
use mir.Val.{Fits}
use Prim.Native.Nat.{ℕ, ◌*◌, ◌<◌, ◌≤◌}
use native.Mathlib.Omega.{arith}
use mathlib.Core.Bool.{Bool, true, false, not}
use mathlib.Core.Path.{◌≡◌, refl, sym, ◌∙◌, ap}
use mathlib.Core.List.{List}
use lib.ListN.{get_or}
use Rattle.std.specs.Prelude.{Option, None, Some, Result, Ok, Err}
use Rattle.std.specs.Option.{ok_or}
use Rattle.std.proofs.lemmas.Bool.Decides.{nat_tests}
use borrow.Author.Tests.{not-true, not-false}
use Rattle.scope.specs.Refusals as paper
use Rattle.scope.specs.Refusals.{NOT_STEADY, QUOTE, refusal, accepted, answer_of}
use Rattle.scope.specs.Book as book
use Rattle.scope.specs.Book.{most_routines, book_of, check_answer}
use Rattle.scope.specs.Flattening.{flat_length, flattens_verdict}
use Rattle.scope.specs.Quote.{steady, quote, most_quote, quote_answer}
use Rattle.scope.specs.SteadyWords.{SteadyRoutine}
use Rattle.scope.specs.GivenByCalls.{to_flatten_the_book, Flattens, GivenQuote, quote_before, quote_NOT_STEADY, quote_QUOTE}
use Rattle.scope.proofs.Verdicts.{exactly_tells}
use Rattle.scope.proofs.TakenBook.{taken_callees_below}
use Rattle.scope.proofs.SteadyWords.{steady_exactly}
use Rattle.scope.proofs.GivenExactlyWhen.{given_exactly_when}
use Rattle.scope.proofs.Answers.{quote_refused_exactly, quote_accepts}
use Rattle.book.specs.declared.header.Counts.{Counts}
use Rattle.book.specs.declared.refusals.Refusal.{Refusal}
use Rattle.book.specs.Told.{refusal_told, result_told, number_told}
use Rattle.book.specs.Asked.{TakenWith}
use Rattle.book.proofs.Answers.{checked_refused}
use Rattle.flatten.proofs.Answers.{refused_as_given, it_passes}
use Rattle.quote.specs.declared.looking.Looks.{Looks}
use Rattle.quote.specs.Sums.{kept, in_the_rows}
use Rattle.quote.specs.Looked.{LookedBelow}
use Rattle.quote.proofs.Looks.{none_is_above, some_is_within, kept_of_the_rows}

refused_with : (b : List ℕ) (k : ℕ) (x : Refusal) {y : paper.Refusal} → refusal_told x ≡ y → GivenQuote b k y
    → number_told (Err x) ≡ quote_answer b k
unfolding result_told
refused_with b k x s g = rw s (sym ((quote_refused_exactly b k _).1 g))

pub book_refused : {A : Type 0} (told : A → book.Counts) (b : List ℕ) (k : ℕ) (r : Result A Refusal) {x : Refusal} → result_told told r ≡ check_answer b → r ≡ Err x
    → number_told (Err x) ≡ quote_answer b k
book_refused told b k r {x} s e = refused_with b k x refl (quote_before (to_flatten_the_book ((given_exactly_when b _).0 (checked_refused b told r s e))))

module _ (b : List ℕ) (c : Counts) (t : TakenWith b c) (k : ℕ) (looks : Looks) (w : LookedBelow b c.routines looks) where
  module _ (r : Result ℕ Refusal) (told : number_told r ≡ answer_of (flattens_verdict b k) (flat_length (book_of b) k)) where
    pub does_not_flatten : {x : Refusal} → r ≡ Err x → number_told (Err x) ≡ quote_answer b k
    does_not_flatten {x} e = refused_with b k x refl (quote_before (refused_as_given b k r told e))

    module _ (n : ℕ) (flat : r ≡ Ok n) where
      flattens : Flattens b k
      flattens = it_passes b k r told n flat

      pub asked_is_there : k < c.routines
      asked_is_there = omega (arith, flattens.a_routine, t.tabled.sized.counts.routines_are)

      abbrev its_quote : Option ℕ
      its_quote = in_the_rows looks.numbers looks.overs k

      quoted : its_quote ≡ kept (quote (book_of b) k)
      quoted = kept_of_the_rows b c.routines k looks.numbers looks.overs w.numbers_are w.overs_are asked_is_there

      pub asked_in_the_rows : k < most_routines
      asked_in_the_rows = omega (arith, asked_is_there, t.tabled.sized.routines_to_32)

      module _ (is_steady : Bool) (tests : is_steady ≡ steady (book_of b) k) where
        pub not_steady : (x : Refusal) → refusal_told x ≡ refusal NOT_STEADY 0 → not is_steady ≡ true → number_told (Err x) ≡ quote_answer b k
        not_steady x s e =
            refused_with b k x s
            (quote_NOT_STEADY flattens
            ((exactly_tells (steady_exactly (book_of b) (taken_callees_below b t.taken) k)).when_false.0 (sym tests ∙ not-true is_steady e)))

        module _ (so : not is_steady ≡ false) where
          a_steady_one : SteadyRoutine (book_of b) k
          a_steady_one = (steady_exactly (book_of b) (taken_callees_below b t.taken) k).0 (sym tests ∙ not-false is_steady so)

          pub over_quoted : (x : Refusal) → refusal_told x ≡ refusal QUOTE 0 → its_quote ≡ None → number_told (Err x) ≡ quote_answer b k
          over_quoted x s e = refused_with b k x s (quote_QUOTE flattens a_steady_one (none_is_above _ (sym e ∙ quoted)))

          pub quote_in_the_row : (q : ℕ) → its_quote ≡ Some q → number_told (Ok q) ≡ quote_answer b k
          unfolding result_told
          quote_in_the_row q e =
              let (is_it, fits) = some_is_within q _ (sym e ∙ quoted) in
              ap accepted is_it ∙ sym (quote_accepts b k (record { flattens = flattens; a_steady_one = a_steady_one; not_too_high = fits }))

          -- The row has the quote, or there is none.
          module _ (x : Refusal) (says : refusal_told x ≡ refusal QUOTE 0) where
            of_the_row : (o : Option ℕ) → its_quote ≡ o → number_told (ok_or o x) ≡ quote_answer b k
            of_the_row None e = over_quoted x says e
            of_the_row (Some q) e = quote_in_the_row q e

            pub quote_or_none : (o : Option ℕ) (r : Result ℕ Refusal) → o ≡ its_quote → r ≡ ok_or o x → number_told r ≡ quote_answer b k
            quote_or_none o r f e = rw e (of_the_row o (sym f))
