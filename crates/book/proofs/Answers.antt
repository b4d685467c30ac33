-- The answers of checking and of reading: one law for each way out, and what a book that passes so far gives to the next test.
-- A verdict in hand is the definition's, so a refusal is the call's answer and a pass lets the next test decide. Assumes nothing.
use Rattle.std.specs.Prelude.{Result, Ok, Err}
use Prim.Native.Nat.{ℕ, ◌<◌, ◌≤◌}
use mathlib.Core.Path.{◌≡◌, sym, ◌∙◌, ap}
use mathlib.Core.List.{List}
use lib.ListN.{length}
use Rattle.scope.specs.Refusals.{NO_ROUTINE, LINE, pass, refuse, refusal, accepted}
use Rattle.scope.specs.Book as book
use Rattle.scope.specs.Book.{header_bytes, routines, line_table_due, length_due, header_verdict, count, table_verdict, fields_of, line_of, fields_in, lines_verdict, book_verdict, Taken, check_answer, read_verdict, read_answer}
use Rattle.scope.proofs.Verdicts.{not_below_tells, refuses, goes_on, then_goes_on, then_refuses, then_passes, accepted_only_where_passed, accepted_where_passed, refused_exactly_when}
use Rattle.scope.proofs.TakenBook.{taken_header, taken_book, fields_read_back}
use Rattle.book.specs.declared.header.Counts.{Counts}
use Rattle.book.specs.declared.lines.Line.{Line}
use Rattle.book.specs.declared.refusals.Refusal.{Refusal}
use Rattle.book.specs.Told.{refusal_told, verdict_told, result_told, counts_told, check_told, line_told, read_told}
use Rattle.book.specs.declared.reader.Book.{Book}
use Rattle.book.specs.Opened.{opened_counts}
use Rattle.book.specs.Asked.{CountsOf, Sized, Tabled, TakenWith}
use Rattle.book.proofs.Scanned.{below_R, told_pass, told_refusal}

-- ---- what passing gives

header_sized : (b : List ℕ) (c : Counts) → header_verdict b ≡ pass → CountsOf b c → Sized b c
unfolding length_due line_table_due
header_sized b c e k =
    let h = taken_header b e in
    record {
      counts = k;
      some_routine = rw k.routines_are h.some_routine;
      routines_to_32 = rw k.routines_are h.routines_to_32;
      lines_to_4096 = rw k.lines_are h.lines_to_4096;
      size = rw (k.routines_are, k.lines_are) h.length_as_due;
    }

taken_with : (b : List ℕ) (c : Counts) → Taken b → CountsOf b c → TakenWith b c
unfolding book_verdict
taken_with b c t k =
    let past = then_passes (header_verdict b) t in
    record {
      taken = t;
      tabled = record { sized = header_sized b c past.0 k; table_passes = (then_passes (table_verdict b) past.1).0 };
    }

-- ---- the book's tests, in order

module _ (b : List ℕ) (front : Result (Unit {0}) Refusal) (header_says : verdict_told front ≡ header_verdict b) where
  pub header_refuses : {x : Refusal} → front ≡ Err x → verdict_told (Err x) ≡ book_verdict b
  unfolding verdict_told book_verdict
  header_refuses e = sym (then_refuses _ (told_refusal header_says e))

  module _ (passes : front ≡ Ok tt) where
    pub header_is_there : header_bytes ≤ length b
    header_is_there = (taken_header b (told_pass header_says passes)).has_a_header

    pub sized : (c : Counts) → CountsOf b c → Sized b c
    sized c = header_sized b c (told_pass header_says passes)

    module _ (entries : Result (Unit {0}) Refusal) (table_says : verdict_told entries ≡ table_verdict b) where
      pub table_refuses : {x : Refusal} → entries ≡ Err x → verdict_told (Err x) ≡ book_verdict b
      unfolding verdict_told book_verdict
      table_refuses e =
          sym (then_goes_on _ (told_pass header_says passes) ∙ then_refuses _ (told_refusal table_says e))

      pub tabled : (c : Counts) → entries ≡ Ok tt → CountsOf b c → Tabled b c
      tabled c e k = record { sized = sized c k; table_passes = told_pass table_says e }

      pub lines_decide : (v : Result (Unit {0}) Refusal) → entries ≡ Ok tt → verdict_told v ≡ lines_verdict b → verdict_told v ≡ book_verdict b
      unfolding book_verdict
      lines_decide v e s = s ∙ sym (then_goes_on _ (told_pass header_says passes) ∙ then_goes_on _ (told_pass table_says e))

-- ---- checking

module _ (b : List ℕ) (v : Result (Unit {0}) Refusal) (book_says : verdict_told v ≡ book_verdict b) where
  pub check_refuses : {x : Refusal} → v ≡ Err x → check_told (Err x) ≡ check_answer b
  unfolding result_told check_answer
  check_refuses e = sym ((refused_exactly_when _ _ _).1 (told_refusal book_says e))

  pub book_has_a_header : v ≡ Ok tt → header_bytes ≤ length b
  unfolding book_verdict
  book_has_a_header e = (taken_header b (then_passes (header_verdict b) (told_pass book_says e)).0).has_a_header

  pub check_takes : (c : Counts) → v ≡ Ok tt → CountsOf b c → check_told (Ok c) ≡ check_answer b
  unfolding result_told counts_told check_answer
  check_takes c e k = rw (k.routines_are, k.lines_are) (sym (accepted_where_passed _ (told_pass book_says e)))

-- What every caller has who has checked a book: refused, the refusal is the book's; taken, the facts of a taken book.
module _ {A : Type 0} (b : List ℕ) (told : A → book.Counts) (r : Result A Refusal) (answers : result_told told r ≡ check_answer b) where
  pub checked_refused : {x : Refusal} → r ≡ Err x → book_verdict b ≡ refuse (refusal_told x)
  unfolding result_told check_answer
  checked_refused e = (refused_exactly_when _ _ _).0 (sym answers ∙ ap (result_told told) e)

pub checked_taken : (b : List ℕ) (r : Result Counts Refusal) → check_told r ≡ check_answer b → {c : Counts} → r ≡ Ok c → TakenWith b c
unfolding result_told counts_told check_answer
checked_taken b r answers {c} e =
    let p = accepted_only_where_passed (book_verdict b) (sym answers ∙ ap check_told e) in
    let same = sym p.1 in
    taken_with b c p.0
    (record {
      routines_are = ap (λ (x : book.Counts). x.routine_count) same;
      lines_are = ap (λ (x : book.Counts). x.line_count) same;
    })

-- ---- opening

module _ (b : List ℕ) (r : Result Counts Refusal) (answers : check_told r ≡ check_answer b) where
  pub open_refuses : {x : Refusal} → r ≡ Err x → result_told opened_counts (Err x) ≡ check_answer b
  unfolding result_told
  open_refuses e = ap check_told (sym e) ∙ answers

  pub opened : {c : Counts} (k : Book) → r ≡ Ok c → k.counts ≡ c → result_told opened_counts (Ok k) ≡ check_answer b
  unfolding result_told opened_counts
  opened k e same = ap (λ c. accepted (counts_told c)) same ∙ ap check_told (sym e) ∙ answers

-- ---- reading

module _ (b : List ℕ) (r j : ℕ) where
  pub book_refused : {A : Type 0} (told : A → book.Counts) (k : Result A Refusal) {x : Refusal} → result_told told k ≡ check_answer b → k ≡ Err x
      → read_told (Err x) ≡ read_answer b r j
  unfolding result_told read_answer read_verdict
  book_refused told k s e = sym ((refused_exactly_when _ _ _).1 (then_refuses _ (checked_refused b told k s e)))

  module _ (c : Counts) (t : TakenWith b c) where
    pub no_such_routine : (x : Refusal) → refusal_told x ≡ refusal NO_ROUTINE 0 → c.routines ≤ r
        → read_told (Err x) ≡ read_answer b r j
    unfolding result_told read_answer read_verdict
    no_such_routine x s h =
        sym ((refused_exactly_when _ _ _).1 (then_goes_on _ t.taken
        ∙ refuses _ _ (not_below_tells r (routines b)) (rw (sym t.tabled.sized.counts.routines_are) h)
        ∙ ap refuse (sym s)))

    module _ (h : r < c.routines) where
      here : r < routines b
      here = below_R r t.tabled.sized h

      pub no_such_line : (x : Refusal) (n : ℕ) → refusal_told x ≡ refusal LINE 0 → n ≡ count b r → n ≤ j
          → read_told (Err x) ≡ read_answer b r j
      unfolding result_told read_answer read_verdict
      no_such_line x n s k l =
          sym ((refused_exactly_when _ _ _).1 (then_goes_on _ t.taken
          ∙ goes_on _ _ (not_below_tells r (routines b)) here
          ∙ refuses _ _ (not_below_tells j (count b r)) (rw (sym k) l)
          ∙ ap refuse (sym s)))

      pub line_found : (l : Line) (n : ℕ) → n ≡ count b r → j < n → line_told l ≡ line_of (fields_in b r j)
          → read_told (Ok l) ≡ read_answer b r j
      unfolding result_told read_answer read_verdict
      line_found l n k s e =
          let below : j < count b r = rw (sym k) s in
          ap accepted (ap fields_of e ∙ fields_read_back (fields_in b r j) r (count b r) ((taken_book b t.taken).lines_right r j here below))
          ∙ sym (accepted_where_passed _ (then_goes_on _ t.taken
          ∙ goes_on _ _ (not_below_tells r (routines b)) here
          ∙ goes_on _ _ (not_below_tells j (count b r)) below))
