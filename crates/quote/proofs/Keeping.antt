-- A sum of two quotes that are kept is kept, and so is the quote of a REPEAT: over where it is above 2^64-1, else the number.
-- Where nothing is over, the tests before a sum or a product tell whether it goes above. The code cites none of it. Assumes nothing.
use mir.Syntax.{w64}
use mir.Val.{Fits}
use Prim.Native.Nat.{ℕ, ◌+◌, ◌*◌, ◌-◌, ◌<◌, ◌≤◌}
use native.Mathlib.Omega.{arith}
use mathlib.Core.Bool.{Bool, true, false}
use mathlib.Core.Path.{◌≡◌, refl, sym, ◌∙◌}
use mathlib.Core.List.{List}
use lib.ListN.{get_or}
use Rattle.scope.specs.Book.{count, line_of, fields_in, book_of}
use Rattle.scope.specs.Steps.{top}
use Rattle.scope.specs.Quote.{line_quote, quote, most_quote}
use Rattle.scope.proofs.Verdicts.{above_tells}
use Rattle.book.specs.declared.header.Counts.{Counts}
use Rattle.book.specs.declared.lines.Reg.{Reg}
use Rattle.book.specs.declared.lines.Line.{Line}
use Rattle.book.specs.declared.lines.Line.TheVariants as line
use Rattle.book.specs.Told.{line_told}
use Rattle.book.specs.Asked.{TakenWith}
use Rattle.book.proofs.Fits.{holds_of_the_line, CALL_below, REPEAT_below}
use Rattle.quote.specs.Sums.{Numbers, Overs}
use Rattle.quote.specs.Marked.{Sum, Keeps, Added, Repeated}

-- ---- what is kept

module _ {q n : ℕ} {over : Bool} (w : Keeps q n over) where
  pub goes_above : over ≡ true → most_quote < q
  goes_above e = (above_tells q most_quote).when_true.0 (sym w.over_exactly ∙ e)

  pub within : over ≡ false → q ≤ most_quote
  within e = (above_tells q most_quote).when_false.0 (sym w.over_exactly ∙ e)

  pub the_number : over ≡ false → n ≡ q
  the_number e = w.else_the_number (within e)

kept_over : (q n : ℕ) (over : Bool) → over ≡ true → most_quote < q → Keeps q n over
kept_over q n over e h =
    record { over_exactly = e ∙ sym ((above_tells q most_quote).when_true.1 h); else_the_number = λ s. absurd (omega (arith, h, s)) }

kept_exactly : (q n : ℕ) → n ≡ q → q ≤ most_quote → Keeps q n false
kept_exactly q n e h = record { over_exactly = sym ((above_tells q most_quote).when_false.1 h); else_the_number = λ s. e }

pub a_number_is_kept : (n : ℕ) → Fits w64 n → Keeps n n false
a_number_is_kept n h = kept_exactly n n refl (omega (arith, h.fits))

-- What stands in the two rows keeps the quote.
pub kept_in_the_rows : (b : List ℕ) (k q : ℕ) (numbers : List ℕ) (overs : List Bool) → Numbers b k numbers → Overs b k overs → q < k
    → Keeps (quote (book_of b) q) (get_or numbers q 0) (get_or overs q false)
kept_in_the_rows b k q numbers overs w o h = record { over_exactly = o.each q h; else_the_number = w.each q h }

-- ---- sums

module _ (a b r : Sum) where
  pub first_over : a.over ≡ true → r.over ≡ true → Added a b r
  first_over e o = record { keeps = λ p q x y. kept_over (p + q) r.number r.over o (omega (arith, goes_above x e)) }

  pub second_over : b.over ≡ true → r.over ≡ true → Added a b r
  second_over e o = record { keeps = λ p q x y. kept_over (p + q) r.number r.over o (omega (arith, goes_above y e)) }

  module _ (first : a.over ≡ false) (second : b.over ≡ false) (m n : ℕ) (is_first : m ≡ a.number) (is_second : n ≡ b.number) where
    pub sum_over : 18446744073709551615 - m < n → r.over ≡ true → Added a b r
    sum_over h o =
        record {
          keeps = λ p q x y.
              kept_over (p + q) r.number r.over o (omega (arith, h, is_first, is_second, the_number x first, the_number y second));
        }

    pub sum_kept : Keeps (m + n) r.number r.over → Added a b r
    sum_kept k =
        record {
          keeps = λ p q x y.
              let same : m + n ≡ p + q = omega (arith, is_first, is_second, the_number x first, the_number y second) in
              rw same at k;
        }

-- ---- a REPEAT

module _ (a r : Sum) where
  pub repeated_over : a.over ≡ true → r.over ≡ true → Repeated a r
  repeated_over e o = record { keeps = λ q x. kept_over (top * (q + 2) + 1) r.number r.over o (omega (arith, goes_above x e)) }

  module _ (not_over : a.over ≡ false) (n : ℕ) (is_it : n ≡ a.number) where
    pub product_over : 281479271743486 < n → r.over ≡ true → Repeated a r
    product_over h o =
        record { keeps = λ q x. kept_over (top * (q + 2) + 1) r.number r.over o (omega (arith, h, is_it, the_number x not_over)) }

    pub product_kept : Keeps (top * (n + 2) + 1) r.number r.over → Repeated a r
    product_kept k =
        record {
          keeps = λ q x.
              let same : n ≡ q = is_it ∙ the_number x not_over in
              rw same at k;
        }

-- ---- a line

module _ (b : List ℕ) (c : Counts) (l : Line) (k j : ℕ) (t : TakenWith b c) (h : k < c.routines) (s : j < count b k)
    (e : line_told l ≡ line_of (fields_in b k j)) where
  pub kept_of_the_line : (n : ℕ) (over : Bool) {m : Line} → l ≡ m → Keeps (line_quote (quote (book_of b)) (line_told m)) n over
      → Keeps (line_quote (quote (book_of b)) (line_of (fields_in b k j))) n over
  kept_of_the_line n over d w = holds_of_the_line b c l k j t h s e (λ x. Keeps (line_quote (quote (book_of b)) x) n over) d w

  module _ (numbers : List ℕ) (overs : List Bool) (w : Numbers b k numbers) (o : Overs b k overs) where
    pub CALL_kept : {q : ℕ} → l ≡ line.Call q
        → Keeps (line_quote (quote (book_of b)) (line_of (fields_in b k j))) (get_or numbers q 0) (get_or overs q false)
    unfolding line_quote line_told
    CALL_kept {q} d =
        kept_of_the_line (get_or numbers q 0) (get_or overs q false) d (kept_in_the_rows b k q numbers overs w o (CALL_below b c l k j t h s e d))

    pub REPEAT_kept : (r : Sum) {g : Reg} {q : ℕ} → l ≡ line.Repeat g q → Repeated (record { number = get_or numbers q 0; over = get_or overs q false }) r
        → Keeps (line_quote (quote (book_of b)) (line_of (fields_in b k j))) r.number r.over
    unfolding line_quote line_told
    REPEAT_kept r {q = q} d f =
        kept_of_the_line r.number r.over d
        (f.keeps (quote (book_of b) q) (kept_in_the_rows b k q numbers overs w o (REPEAT_below b c l k j t h s e d)))
