-- One look at a routine's lines tells its length, its mask and its quote; and what is told of the routines below k stands in the rows.
-- The first j lines are looked at: how long they are, what they name and what they quote. Assumes nothing.
use Prim.Native.Nat.{ℕ, ◌+◌, ◌<◌, ◌≤◌, min}
use native.Mathlib.Omega.{arith}
use native.Mathlib.Numerals.{add-one}
use mathlib.Core.Path.{◌≡◌, refl, sym, ◌∙◌, ap}
use mathlib.Core.List.{List}
use lib.ListN.{length, take, set}
use lib.Bits.{bit_or}
use Rattle.std.specs.Prelude.{Option, Some, None}
use Rattle.std.specs.Option.{unwrap_or, is_some}
use borrow.Author.Tests.{not-true, not-false}
use Rattle.std.proofs.lemmas.Bool.Decides.{nat_tests}
use mathlib.Core.Bool.{Bool, true, false, not}
use Rattle.scope.specs.Words.{◌above◌}
use Rattle.scope.proofs.Verdicts.{above_tells}
use Rattle.scope.specs.Book.{most_routines, routines, count, line_of, fields_in, routine, book_of}
use Rattle.scope.specs.Flattening.{sum_of, start}
use Rattle.scope.specs.Quote.{line_quote, quote_by, quote, most_quote}
use Rattle.scope.proofs.TakenBook.{taken_callees_below, line_in_the_book, routine_ends, all_its_lines}
use Rattle.scope.proofs.FlatLines.{sum_to_the_next, first_start, end_start}
use Rattle.scope.proofs.Lowest.{quote_by_the_rule}
use Rattle.book.specs.declared.header.Counts.{Counts}
use Rattle.book.specs.Asked.{TakenWith}
use Rattle.book.proofs.Scanned.{below_R}
use Rattle.flatten.specs.Rows.{length_cap}
use Rattle.flatten.proofs.Rows.{empty_row, one_more_routine}
use Rattle.quote.specs.declared.looking.Looked.{Looked}
use Rattle.quote.specs.declared.looking.Looks.{Looks}
use Rattle.quote.specs.Naming.{Marks, line_names}
use Rattle.quote.specs.Sums.{kept, Numbers, Overs, in_the_rows}
use Rattle.quote.specs.Looked.{LookedAt, LookedBelow}
use Rattle.quote.proofs.Masks.{named_to, nothing_named, one_more_named, all_named}

-- ---- a routine

-- what the first j lines of routine k quote
unfoldable pub quoted_to : (b : List ℕ) (k j : ℕ) → ℕ
quoted_to b k j = sum_of (line_quote (quote (book_of b))) (take j (routine (book_of b) k))

-- The first j lines of routine k are looked at.
pub record Looking (b : List ℕ) (k j length mask : ℕ) (o : Option ℕ) : Type 0 where
  pub starts_at : length ≡ min (start (book_of b) k j) length_cap
  pub names : Marks (named_to b k j) mask
  pub quotes : o ≡ kept (quoted_to b k j)

pub nothing_looked_at : (b : List ℕ) (k q : ℕ) → q ≡ 0 → Looking b k 0 0 0 (Some q)
unfolding quoted_to sum_of kept
nothing_looked_at b k q e =
    record {
      starts_at = rw (first_start (book_of b) k) refl;
      names = nothing_named b k;
      quotes = ap Some e;
    }

module _ (b : List ℕ) (c : Counts) (k n : ℕ) (t : TakenWith b c) (h : k < c.routines) (size : n ≡ count b k) where
  here : k < routines b
  here = below_R k t.tabled.sized h

  module _ (j length mask : ℕ) (o : Option ℕ) (s : Looking b k j length mask o) where
    pub one_more_line : (length' mask' : ℕ) (of_line o' : Option ℕ) → j < n → length' ≡ min (start (book_of b) k (j + 1)) length_cap
        → Marks (line_names b (line_of (fields_in b k j))) mask'
        → of_line ≡ kept (line_quote (quote (book_of b)) (line_of (fields_in b k j)))
        → ((p q : ℕ) → o ≡ kept p → of_line ≡ kept q → o' ≡ kept (p + q))
        → Looking b k (j + 1) length' (bit_or mask mask') o'
    unfolding quoted_to
    one_more_line length' mask' of_line o' g starts marks keeps adds =
        let there : j < count b k = rw size at g in
        let next = sum_to_the_next (line_quote (quote (book_of b))) (routine (book_of b) k) j (line_in_the_book b k j here there) in
        record {
          starts_at = starts;
          names = one_more_named b c k t here j mask s.names mask' there marks;
          quotes = rw (add-one j, next) (adds _ _ s.quotes keeps);
        }

    pub routine_looked_at : j ≤ n → n ≤ j → LookedAt b k (record { length = length; mask = mask; quote = o })
    unfolding quoted_to quote_by
    routine_looked_at f g =
        let at_the_end : j ≡ count b k = omega (arith, f, g, size) in
        let ok = taken_callees_below b t.taken in
        record {
          length_is = s.starts_at ∙ ap (λ x. min x length_cap) (end_start (book_of b) ok k j (rw at_the_end (routine_ends b k here)));
          mask_is = all_named b c k t here j mask s.names (omega (arith, at_the_end));
          quote_is = rw (quote_by_the_rule (book_of b) ok k) (rw (all_its_lines b k j here (omega (arith, at_the_end))) at s.quotes);
        }

-- ---- the two rows of a quote

not-not : (x : Bool) → not (not x) ≡ x
not-not true = refl
not-not false = refl

pub none_is_above : (q : ℕ) → None ≡ kept q → most_quote < q
unfolding kept
none_is_above q e = grind (arith, nat_tests)

pub some_is_within : (n q : ℕ) → Some n ≡ kept q → (n ≡ q) × (q ≤ most_quote)
unfolding kept
some_is_within n q e = grind (arith, nat_tests)

-- What goes into them where a quote is kept ..
pub number_kept : (o : Option ℕ) (q : ℕ) → o ≡ kept q → q ≤ most_quote → unwrap_or o 0 ≡ q
number_kept None q e h = absurd (omega (arith, none_is_above q e, h))
number_kept (Some n) q e h = (some_is_within n q e).0

pub mark_kept : (o : Option ℕ) (q : ℕ) (x : Bool) → o ≡ kept q → is_some o ≡ not x → x ≡ (q above most_quote)
mark_kept None q x e f = not-false x (sym f) ∙ sym ((above_tells q most_quote).when_true.1 (none_is_above q e))
mark_kept (Some n) q x e f = not-true x (sym f) ∙ sym ((above_tells q most_quote).when_false.1 (some_is_within n q e).1)

-- .. and what is read from them is what is kept.
pub kept_of_the_rows : (b : List ℕ) (k c : ℕ) (numbers : List ℕ) (overs : List Bool) → Numbers b k numbers → Overs b k overs → c < k
    → in_the_rows numbers overs c ≡ kept (quote (book_of b) c)
unfolding in_the_rows kept
kept_of_the_rows b k c numbers overs n o h = grind (arith, nat_tests, n.each c h, o.each c h)

pub its_quote : (b : List ℕ) (k c : ℕ) (looks : Looks) → LookedBelow b k looks → c < k → in_the_rows looks.numbers looks.overs c ≡ kept (quote (book_of b) c)
its_quote b k c looks w h = kept_of_the_rows b k c looks.numbers looks.overs w.numbers_are w.overs_are h

module _ (b : List ℕ) (k : ℕ) (h : k < most_routines) (o : Option ℕ) (e : o ≡ kept (quote (book_of b) k)) where
  pub one_more_number : (numbers : List ℕ) (n : ℕ) → Numbers b k numbers → n ≡ unwrap_or o 0 → Numbers b (k + 1) (set numbers k n)
  one_more_number numbers n w f = one_more_routine 0 _ numbers k n w h (λ low. f ∙ number_kept o _ e low)

  pub one_more_mark : (overs : List Bool) (x : Bool) → Overs b k overs → is_some o ≡ not x → Overs b (k + 1) (set overs k x)
  one_more_mark overs x w f = one_more_routine false _ overs k x w h (mark_kept o _ x e f)

-- ---- all of them

-- The routines below k, of R, are looked at.
pub record RowsTo (b : List ℕ) (R k : ℕ) (looks : Looks) : Type 0 where
  pub upto : k ≤ R
  pub below : LookedBelow b k looks

module _ (b : List ℕ) (R : ℕ) (looks : Looks) where
  pub no_routine_looked_at : length looks.lengths ≡ most_routines → length looks.masks ≡ most_routines
      → length looks.numbers ≡ most_routines → length looks.overs ≡ most_routines → RowsTo b R 0 looks
  no_routine_looked_at e f g h =
      record {
        upto = omega arith;
        below = record {
          lengths_are = empty_row 0 _ looks.lengths e;
          masks_are = empty_row 0 _ looks.masks f;
          numbers_are = empty_row 0 _ looks.numbers g;
          overs_are = empty_row false _ looks.overs h;
        };
      }

  module _ (c : Counts) (t : TakenWith b c) (same : R ≡ c.routines) (k : ℕ) (s : RowsTo b R k looks) where
    pub one_more_looked_at : (x : Looked) → k < R → LookedAt b k x
        → RowsTo b R (k + 1)
        (record {
          lengths = set looks.lengths k x.length;
          masks = set looks.masks k x.mask;
          numbers = set looks.numbers k (unwrap_or x.quote 0);
          overs = set looks.overs k (not (is_some x.quote));
        })
    one_more_looked_at x h l =
        let low : k < most_routines = omega (arith, h, same, t.tabled.sized.routines_to_32) in
        record {
          upto = omega (arith, h);
          below = record {
            lengths_are = one_more_routine 0 _ looks.lengths k x.length s.below.lengths_are low l.length_is;
            masks_are = one_more_routine 0 _ looks.masks k x.mask s.below.masks_are low l.mask_is;
            numbers_are = one_more_number b k low x.quote l.quote_is looks.numbers _ s.below.numbers_are refl;
            overs_are = one_more_mark b k low x.quote l.quote_is looks.overs _ s.below.overs_are (sym (not-not (is_some x.quote)));
          };
        }

    pub all_looked_at : R ≤ k → LookedBelow b c.routines looks
    all_looked_at h = let last : k ≡ c.routines = omega (arith, h, s.upto, same) in rw last at s.below
