-- Tests in a loop: while all have passed the loop goes on, the first refusal is the answer, and where none is left all pass.
-- A loop keeps how far all have passed (`PassedTo`); one law for each way out of the table's loop and of the lines' loops. Assumes nothing.
use Rattle.std.specs.Prelude.{Result, Ok, Err}
use Prim.Native.Nat.{ℕ, ◌+◌, ◌-◌, ◌<◌, ◌≤◌}
use native.Mathlib.Omega.{arith}
use native.Mathlib.Numerals.{add-one}
use mathlib.Core.Path.{◌≡◌, refl, sym, ◌∙◌, ap}
use mathlib.Core.Logic.{◌≢◌}
use mathlib.Core.List.{List}
use mir.Syntax.{w16}
use mir.Val.{Fits}
use Rattle.scope.specs.Refusals.{ROUTINE, Refusal, refusal, Verdict, pass, refuse, first}
use Rattle.scope.specs.Book.{routines, lines, first_line, count, first_line_due, entry_verdict, table_verdict, LineFields, line_test, fields_at, line_number, fields_in, line_verdict, routine_verdict, lines_verdict}
use Rattle.scope.proofs.Verdicts.{is_not_tells, refuses, goes_on, then_goes_on, then_refuses, one_more_passes, first_hit}
use Rattle.scope.proofs.TakenBook.{table_ends_within}
use Rattle.book.specs.declared.header.Counts.{Counts}
use Rattle.book.specs.declared.lines.Fields.{Fields}
use Rattle.book.specs.declared.refusals.Refusal as refusals
use Rattle.book.specs.Told.{refusal_told, fields_told, verdict_told}
use Rattle.book.specs.Asked.{Sized, Tabled, LineWithin}

-- ---- what the counts say

-- a routine below the count is a routine of the book
pub below_R : {b : List ℕ} {c : Counts} (r : ℕ) → Sized b c → r < c.routines → r < routines b
below_R r s h = rw (sym s.counts.routines_are) h

-- ---- what a verdict in hand says of the definition's

pub told_pass : {v : Result (Unit {0}) refusals.Refusal} {w : Verdict} → verdict_told v ≡ w → v ≡ Ok tt → w ≡ pass
unfolding verdict_told
told_pass s e = sym s ∙ ap verdict_told e

pub told_refusal : {v : Result (Unit {0}) refusals.Refusal} {w : Verdict} {x : refusals.Refusal} → verdict_told v ≡ w → v ≡ Err x → w ≡ refuse (refusal_told x)
unfolding verdict_told
told_refusal s e = sym s ∙ ap verdict_told e

-- ---- any row of tests

-- of n tests the first i pass
pub record PassedTo (t : ℕ → Verdict) (n i : ℕ) : Type 0 where
  pub within : i ≤ n
  pub passed : first t i ≡ pass

pub none_yet : (t : ℕ → Verdict) (n : ℕ) → PassedTo t n 0
unfolding first
none_yet t n = record { within = omega arith; passed = refl }

pub one_more : {t : ℕ → Verdict} {n i : ℕ} → PassedTo t n i → i < n → t i ≡ pass → PassedTo t n (i + 1)
one_more {t} {n} {i} p h e =
    record { within = omega arith; passed = ap (first t) (add-one i) ∙ one_more_passes t i p.passed e }

pub stopped : {t : ℕ → Verdict} {n i : ℕ} {x : Refusal} → PassedTo t n i → i < n → t i ≡ refuse x → first t n ≡ refuse x
stopped {t} {n} {i} p h e = first_hit t n i h p.passed e

pub all_passed : {t : ℕ → Verdict} {n i : ℕ} → PassedTo t n i → n ≤ i → first t n ≡ pass
all_passed {t} {n} {i} p h =
    let same : n ≡ i = omega (arith, p.within) in
    ap (first t) same ∙ p.passed

-- ---- the routine table

-- The entries below r pass, and routine r has to start at `due`.
pub record Due (b : List ℕ) (R due r : ℕ) : Type 0 where
  pub passed : PassedTo (entry_verdict b) R r
  pub due_is : due ≡ first_line_due b r

pub due_at_first : (b : List ℕ) (R : ℕ) → Due b R 0 0
unfolding first_line_due
due_at_first b R = record { passed = none_yet (entry_verdict b) R; due_is = refl }

pub due_next : {b : List ℕ} {R due r : ℕ} (f n : ℕ) → Due b R due r → r < R → f ≡ first_line b r → f ≡ due → n ≡ count b r
    → Due b R (f + n) (r + 1)
unfolding first_line_due entry_verdict
due_next {b} {R} {due} {r} f n d h e s k =
    let right : first_line b r ≡ first_line_due b r = cc in
    record {
      passed = one_more d.passed h (goes_on _ _ (is_not_tells (first_line b r) (first_line_due b r)) right);
      due_is = rw (add-one r, e, k);
    }

pub entry_refused : {b : List ℕ} {R due r : ℕ} {x : Refusal} (f : ℕ) → R ≡ routines b → Due b R due r → r < R → f ≡ first_line b r
    → f ≢ due → x ≡ refusal ROUTINE r → refuse x ≡ table_verdict b
unfolding table_verdict entry_verdict
entry_refused {b} {R} {due} {r} f k d h e s w =
    let wrong : first_line b r ≢ first_line_due b r = λ z. s (e ∙ z ∙ sym d.due_is) in
    let hit = stopped d.passed h (refuses _ _ (is_not_tells (first_line b r) (first_line_due b r)) wrong) in
    ap refuse w ∙ sym (then_refuses _ (ap (first (entry_verdict b)) (sym k) ∙ hit))

pub end_refused : {b : List ℕ} {R due r L : ℕ} {x : Refusal} → R ≡ routines b → L ≡ lines b → Due b R due r → R ≤ r → due ≢ L
    → x ≡ refusal ROUTINE (R - 1) → refuse x ≡ table_verdict b
unfolding table_verdict
end_refused {b} {R} {due} {r} k l d h s w =
    let same : r ≡ R = omega (arith, d.passed.within) in
    let wrong : first_line_due b (routines b) ≢ lines b = λ z. s (d.due_is ∙ ap (first_line_due b) (same ∙ k) ∙ z ∙ sym l) in
    ap refuse w ∙ ap (λ n. refuse (refusal ROUTINE (n - 1))) k
    ∙ sym (then_goes_on _ (ap (first (entry_verdict b)) (sym k) ∙ all_passed d.passed h)
    ∙ refuses _ _ (is_not_tells (first_line_due b (routines b)) (lines b)) wrong)

pub table_right : {b : List ℕ} {R due r L : ℕ} → R ≡ routines b → L ≡ lines b → Due b R due r → R ≤ r → due ≡ L
    → pass ≡ table_verdict b
unfolding table_verdict
table_right {b} {R} {due} {r} k l d h s =
    let same : r ≡ R = omega (arith, d.passed.within) in
    let right : first_line_due b (routines b) ≡ lines b = sym (d.due_is ∙ ap (first_line_due b) (same ∙ k)) ∙ s ∙ l in
    sym (then_goes_on _ (ap (first (entry_verdict b)) (sym k) ∙ all_passed d.passed h)
    ∙ goes_on _ _ (is_not_tells (first_line_due b (routines b)) (lines b)) right)

-- ---- the lines

-- Line j of routine r, which starts at f and has n lines, is a line of the book: its number fits, and it stands in the bytes.
module _ {b : List ℕ} {c : Counts} (r f n j : ℕ) (t : Tabled b c) (h : r < c.routines) (starts : f ≡ first_line b r)
    (counted : n ≡ count b r) (l : j < n) where
  in_the_book : f + j < c.lines
  in_the_book = omega (arith, table_ends_within b t.table_passes r (below_R r t.sized h), t.sized.counts.lines_are)

  pub place_fits : Fits w16 (f + j)
  place_fits = record { fits = omega (arith, in_the_book, t.sized.lines_to_4096) }

  pub line_within : LineWithin b c.routines (f + j)
  line_within =
      record {
        routines_are = t.sized.counts.routines_are;
        in_the_bytes = omega (arith, in_the_book, t.sized.size);
      }

-- Line j of routine r, which starts at f and has n lines: x was read there, and v said of it.
module _ (b : List ℕ) (x : Fields) (r f n j : ℕ) (v : Result (Unit {0}) refusals.Refusal) (starts : f ≡ first_line b r) (counted : n ≡ count b r)
    (read : fields_told x ≡ fields_at b (f + j)) (said : verdict_told v ≡ line_test x.kind x.register x.operand r n (f + j)) where
  line_tested : verdict_told v ≡ line_verdict b r j
  unfolding line_verdict line_number fields_in fields_told
  line_tested =
      let place : f + j ≡ first_line b r + j = ap (λ m. m + j) starts in
      let k : x.kind ≡ (fields_at b (f + j)).kind = ap (λ (y : LineFields). y.kind) read in
      let g : x.register ≡ (fields_at b (f + j)).register = ap (λ (y : LineFields). y.register) read in
      let o : x.operand ≡ (fields_at b (f + j)).operand = ap (λ (y : LineFields). y.operand) read in
      said ∙ rw (k, g, o, place, counted)

  pub line_passed : v ≡ Ok tt → PassedTo (line_verdict b r) n j → j < n → PassedTo (line_verdict b r) n (j + 1)
  line_passed e p h = one_more p h (told_pass line_tested e)

  pub line_refused : {y : refusals.Refusal} (R : ℕ) → v ≡ Err y → PassedTo (line_verdict b r) n j → j < n
      → PassedTo (routine_verdict b) R r → r < R → R ≡ routines b → verdict_told (Err y) ≡ lines_verdict b
  unfolding verdict_told lines_verdict routine_verdict
  line_refused R e p h q l k =
      let hit = stopped p h (told_refusal line_tested e) in
      sym (ap (first (routine_verdict b)) (sym k) ∙ stopped q l (ap (first (line_verdict b r)) (sym counted) ∙ hit))

pub routine_passed : (b : List ℕ) (r n j R : ℕ) → n ≡ count b r → PassedTo (line_verdict b r) n j → n ≤ j
    → PassedTo (routine_verdict b) R r → r < R → PassedTo (routine_verdict b) R (r + 1)
unfolding routine_verdict
routine_passed b r n j R k p h q l = one_more q l (ap (first (line_verdict b r)) (sym k) ∙ all_passed p h)

pub lines_all_right : (b : List ℕ) (R r : ℕ) → R ≡ routines b → PassedTo (routine_verdict b) R r → R ≤ r → pass ≡ lines_verdict b
unfolding lines_verdict
lines_all_right b R r k p h = sym (ap (first (routine_verdict b)) (sym k) ∙ all_passed p h)
