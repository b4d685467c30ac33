-- The answers of flattening: one law for each way out.
-- A test that finds its fault gives the call's refusal; where all pass, the flat book stands at the front of the output. Assumes nothing.
use Rattle.std.specs.Prelude.{Result, Ok, Err}
use mir.Syntax.{w16, w64}
use mir.Val.{Fits}
use Prim.Native.Nat.{ℕ, ◌+◌, ◌*◌, ◌<◌, ◌≤◌}
use native.Mathlib.Omega.{arith}
use mathlib.Core.Bool.{Bool, true, false}
use mathlib.Core.Path.{◌≡◌, refl, sym, ◌∙◌, ap}
use mathlib.Core.List.{List}
use lib.ListN.{length, get_or}
use Rattle.scope.specs.Words.{◌above◌}
use Rattle.scope.specs.Refusals as paper
use Rattle.scope.specs.Refusals.{NO_ROUTINE, DEPTH, TOO_LONG, NO_ROOM, pass, refusal, Answer, accepted, answer_of}
use Rattle.scope.specs.Book as book
use Rattle.scope.specs.Book.{routines, book_of, check_answer}
use Rattle.scope.specs.Depth.{OpensTooMany}
use Rattle.scope.specs.Flattening.{flat_length, most_flat_lines, most_open, depth, flat_book, flat_book_bytes, at_the_front_of, flat_program, flattens_verdict, flatten_call}
use Rattle.scope.specs.GivenByCalls.{GivenToFlatten, to_flatten_the_book, to_flatten_NO_ROUTINE, to_flatten_DEPTH, to_flatten_TOO_LONG, Flattens, GivenFlattening, flattening_before, flattening_NO_ROOM}
use Rattle.scope.proofs.Verdicts.{refused_exactly_when, accepted_only_where_passed, accepted_where_passed}
use Rattle.scope.proofs.TakenBook.{taken_callees_below}
use Rattle.scope.proofs.Depth.{depth_tells}
use Rattle.scope.proofs.GivenExactlyWhen.{given_exactly_when}
use Rattle.scope.proofs.GivenByCalls.{to_flatten_given_exactly_when, flattens_exactly_when}
use Rattle.scope.proofs.Answers.{flatten_refused_exactly, flatten_accepts}
use Rattle.book.specs.declared.header.Counts.{Counts}
use Rattle.book.specs.declared.refusals.Refusal.{Refusal}
use Rattle.book.specs.Told.{refusal_told, result_told, number_told}
use Rattle.book.specs.Asked.{TakenWith}
use Rattle.book.proofs.Answers.{checked_refused}
use Rattle.flatten.specs.Rows.{length_cap, Row}
use Rattle.flatten.specs.Copies.{CopyWithin}

-- ---- 12, 11, 13

module _ (b : List ℕ) (c : Counts) (t : TakenWith b c) (k : ℕ) where
  -- what the tests that flattening and the quote share come to
  abbrev judged : Answer ℕ
  judged = answer_of (flattens_verdict b k) (flat_length (book_of b) k)

  judged_so : (x : Refusal) {y : paper.Refusal} → refusal_told x ≡ y → GivenToFlatten b k y → number_told (Err x) ≡ judged
  unfolding result_told
  judged_so x s g = rw s (sym ((refused_exactly_when _ _ _).1 ((to_flatten_given_exactly_when b k _).1 g)))

  pub no_such_routine : (x : Refusal) (R : ℕ) → refusal_told x ≡ refusal NO_ROUTINE 0 → R ≡ c.routines → R ≤ k → number_told (Err x) ≡ judged
  no_such_routine x R s e h = judged_so x s (to_flatten_NO_ROUTINE t.taken (omega (arith, e, h, t.tabled.sized.counts.routines_are)))

  module _ (R : ℕ) (same : R ≡ c.routines) (h : k < R) (deep : Bool) (tested : deep ≡ (depth (book_of b) k above most_open)) where
    here : k < routines b
    here = omega (arith, same, h, t.tabled.sized.counts.routines_are)

    pub too_deep : (x : Refusal) → refusal_told x ≡ refusal DEPTH 0 → deep ≡ true → number_told (Err x) ≡ judged
    too_deep x s e =
        judged_so x s (to_flatten_DEPTH t.taken here ((depth_tells (book_of b) (taken_callees_below b t.taken) k).when_true.0 (sym tested ∙ e)))

    pub length_fits : (lengths : List ℕ) → Row (flat_length (book_of b)) length_cap (routines b) lengths → Fits w64 (get_or lengths k 0)
    length_fits lengths row = record { fits = omega (arith, row.each k here) }

    module _ (shallow : deep ≡ false) (lengths : List ℕ) (row : Row (flat_length (book_of b)) length_cap (routines b) lengths) (n : ℕ)
        (size : n ≡ get_or lengths k 0) where
      not_too_deep : ¬ OpensTooMany (book_of b) k
      not_too_deep = (depth_tells (book_of b) (taken_callees_below b t.taken) k).when_false.0 (sym tested ∙ shallow)

      pub too_long : (x : Refusal) → refusal_told x ≡ refusal TOO_LONG 0 → most_flat_lines < n → number_told (Err x) ≡ judged
      too_long x s g = judged_so x s (to_flatten_TOO_LONG t.taken here not_too_deep (omega (arith, g, size, row.each k here)))

      pub it_flattens : n ≤ most_flat_lines → number_told (Ok n) ≡ judged
      unfolding result_told
      it_flattens g =
          let exact : n ≡ flat_length (book_of b) k = omega (arith, g, size, row.each k here) in
          let passes =
          (flattens_exactly_when b k).1
          (record { taken = t.taken; a_routine = here; not_too_deep = not_too_deep; not_too_long = omega (arith, g, exact) }) in
          ap accepted exact ∙ sym (accepted_where_passed _ passes)

-- ---- what a caller of `flattens` learns

module _ (b : List ℕ) (k : ℕ) (r : Result ℕ Refusal) (told : number_told r ≡ answer_of (flattens_verdict b k) (flat_length (book_of b) k)) where
  pub refused_as_given : {x : Refusal} → r ≡ Err x → GivenToFlatten b k (refusal_told x)
  unfolding result_told
  refused_as_given e = (to_flatten_given_exactly_when b k _).0 ((refused_exactly_when _ _ _).0 (sym told ∙ ap number_told e))

  module _ (n : ℕ) (flat : r ≡ Ok n) where
    passed : (flattens_verdict b k ≡ pass) × (flat_length (book_of b) k ≡ n)
    unfolding result_told
    passed = accepted_only_where_passed _ (sym told ∙ ap number_told flat)

    pub it_passes : Flattens b k
    it_passes = (flattens_exactly_when b k).0 passed.0

    pub flat_length_is : n ≡ flat_length (book_of b) k
    flat_length_is = sym passed.1

    pub routine_fits : (c : Counts) → TakenWith b c → Fits w16 k
    routine_fits c t = record { fits = omega (arith, it_passes.a_routine, t.tabled.sized.counts.routines_are, t.tabled.sized.routines_to_32) }

-- ---- flattening

module _ (b : List ℕ) (k : ℕ) (out : List ℕ) where
  refused_with : (x : Refusal) {y : paper.Refusal} → refusal_told x ≡ y → GivenFlattening b k (length out) y
      → record { answer = number_told (Err x); left = out } ≡ flatten_call b k out
  unfolding result_told
  refused_with x s g = rw s (sym ((flatten_refused_exactly b k out _).1 g))

  pub book_refused : {A : Type 0} (told : A → book.Counts) (r : Result A Refusal) {x : Refusal} → result_told told r ≡ check_answer b → r ≡ Err x
      → record { answer = number_told (Err x); left = out } ≡ flatten_call b k out
  book_refused told r {x} s e =
      refused_with x refl (flattening_before (to_flatten_the_book ((given_exactly_when b _).0 (checked_refused b told r s e))))

  module _ (r : Result ℕ Refusal) (told : number_told r ≡ answer_of (flattens_verdict b k) (flat_length (book_of b) k)) where
    pub routine_refused : {x : Refusal} → r ≡ Err x → record { answer = number_told (Err x); left = out } ≡ flatten_call b k out
    routine_refused {x} e = refused_with x refl (flattening_before (refused_as_given b k r told e))

    module _ (n : ℕ) (flat : r ≡ Ok n) where
      flattens : Flattens b k
      flattens = it_passes b k r told n flat

      exact : n ≡ flat_length (book_of b) k
      exact = flat_length_is b k r told n flat

      few : n ≤ most_flat_lines
      few = omega (arith, exact, flattens.not_too_long)

      pub line_bytes_fit : Fits w64 (4 * n)
      line_bytes_fit = record { fits = omega (arith, few) }

      pub bytes_fit : Fits w64 (16 + 4 * n)
      bytes_fit = record { fits = omega (arith, few) }

      pub flat_book_has_room : 16 + 4 * n ≤ length out → flat_book_bytes n ≤ length out
      unfolding flat_book_bytes
      flat_book_has_room h = h

      -- What the writing asks for: the copy that begins at 0.
      pub whole_copy_within : CopyWithin b k 0
      whole_copy_within = record { a_routine = flattens.a_routine; ends_within = omega (arith, flattens.not_too_long) }

      pub no_room : (x : Refusal) → refusal_told x ≡ refusal NO_ROOM 0 → length out < 16 + 4 * n
          → record { answer = number_told (Err x); left = out } ≡ flatten_call b k out
      unfolding flat_book_bytes
      no_room x s h = refused_with x s (flattening_NO_ROOM flattens (omega (arith, h, exact)))

      pub flat_book_there : (out' : List ℕ) → 16 + 4 * n ≤ length out → out' ≡ at_the_front_of out (flat_book (flat_program (book_of b) k))
          → record { answer = number_told (Ok n); left = out' } ≡ flatten_call b k out
      unfolding result_told flat_book_bytes
      flat_book_there out' room written =
          (λ i. record { answer = accepted (exact i); left = written i })
          ∙ sym (flatten_accepts b k out flattens (omega (arith, room, exact)))
