-- The steady test of lines and routines says what document 01's does: line by line, and of a routine below the mark by the row.
-- A routine is steady if its lines are; each line by its kind. From a line to the routine that it uses the number falls. Assumes nothing.
use Prim.Native.Nat.{ℕ, suc, ◌+◌, ◌*◌, ◌<◌, ◌≤◌}
use native.Mathlib.Omega.{arith}
use native.Mathlib.Numerals.{add-one}
use mathlib.Core.Bool.{Bool, true, false, not}
use mathlib.Core.Path.{◌≡◌, refl, sym, ◌∙◌, ap}
use mathlib.Core.List.{List, []}
use lib.ListN.{get_or, drop}
use borrow.Author.Tests.{not-true, not-false}
use Rattle.scope.specs.Words.{if, ◌and◌}
use Rattle.scope.specs.Book.{routines, count, line_of, fields_in, routine, book_of}
use Rattle.scope.specs.Quote.{named, line_steady, lines_steady, steady_by, steady}
use Rattle.scope.proofs.Lowest.{steady_by_the_rule}
use Rattle.scope.proofs.TakenBook.{taken_callees_below, line_in_the_book, routine_ends}
use Rattle.book.specs.declared.header.Counts.{Counts}
use Rattle.book.specs.declared.lines.Reg.{Reg}
use Rattle.book.specs.declared.lines.Line.{Line}
use Rattle.book.specs.declared.lines.Line.TheVariants as line
use Rattle.book.specs.Told.{line_told}
use Rattle.book.specs.Asked.{TakenWith}
use Rattle.book.proofs.Scanned.{below_R}
use Rattle.book.proofs.Fits.{holds_of_the_line, CALL_below, REPEAT_below}
use Rattle.flatten.proofs.Rows.{KnownTo}
use Rattle.quote.specs.Naming.{bit, Masks}
use Rattle.quote.specs.Steadiness.{Tested}

and_true : (x : Bool) → (x and true) ≡ x
unfolding if
and_true true = refl
and_true false = refl

and_false : (x : Bool) → (x and false) ≡ false
unfolding if
and_false true = refl
and_false false = refl

-- From a routine to its lines the number stays, and the measure falls by one.
pub line_falls : (k m : ℕ) → 2 * k + 1 ≡ m → 2 * k < m
line_falls k m f = omega (arith, f)

-- Every routine of a book has a place in a row.
pub has_a_place_of_32 : (r : ℕ) (b : List ℕ) (c : Counts) → TakenWith b c → r < c.routines → r < 32
has_a_place_of_32 r b c t h = omega (arith, h, t.tabled.sized.routines_to_32)

-- ---- a line

module _ (b : List ℕ) (c : Counts) (l : Line) (k j : ℕ) (t : TakenWith b c) (h : k < c.routines) (s : j < count b k)
    (e : line_told l ≡ line_of (fields_in b k j)) where
  abbrev of_this_line : Bool
  of_this_line = line_steady (named (book_of b)) (steady (book_of b)) j (line_of (fields_in b k j))

  -- What is said of a line of this kind is said of the line.
  pub said_of_the_line : (r : Bool) {m : Line} → l ≡ m → r ≡ line_steady (named (book_of b)) (steady (book_of b)) j (line_told m) → r ≡ of_this_line
  said_of_the_line r d g = holds_of_the_line b c l k j t h s e (λ x. r ≡ line_steady (named (book_of b)) (steady (book_of b)) j x) d g

  -- A line that calls is steady if the routine is.
  module _ {q : ℕ} (d : l ≡ line.Call q) where
    low : q < k
    low = CALL_below b c l k j t h s e d

    pub CALL_there : q < c.routines
    CALL_there = omega (arith, low, h)

    pub CALL_falls : (m : ℕ) → 2 * k ≡ m → 2 * q + 1 < m
    CALL_falls m f = omega (arith, low, f)

  -- A REPEAT line also needs that its register is not named ..
  module _ {g : Reg} {q : ℕ} (d : l ≡ line.Repeat g q) where
    lower : q < k
    lower = REPEAT_below b c l k j t h s e d

    pub REPEAT_there : q < c.routines
    REPEAT_there = omega (arith, lower, h)

    pub REPEAT_falls : (m : ℕ) → 2 * k ≡ m → 2 * q + 1 < m
    REPEAT_falls m f = omega (arith, lower, f)

    module _ (masks : List ℕ) (w : Masks b c.routines masks) (marked : Bool) (tells : marked ≡ bit g.0 (get_or masks q 0)) where
      its_register : {x : Bool} → marked ≡ x → named (book_of b) g.0 q ≡ x
      its_register f = sym ((w.each q REPEAT_there).each g.0) ∙ sym tells ∙ f

      pub REPEAT_of_a_named : marked ≡ true → false ≡ of_this_line
      unfolding line_steady line_told
      REPEAT_of_a_named f = said_of_the_line false d (rw (its_register f) (sym (and_false (steady (book_of b) q))))

      pub REPEAT_steady : marked ≡ false → (r : Bool) → r ≡ steady (book_of b) q → r ≡ of_this_line
      unfolding line_steady line_told
      REPEAT_steady f r y = said_of_the_line r d (rw (its_register f) (y ∙ sym (and_true (steady (book_of b) q))))

-- ---- a routine

-- The first j lines of routine k are steady: those left decide.
pub record SteadyTo (b : List ℕ) (k j : ℕ) : Type 0 where
  pub rest_decides : steady (book_of b) k ≡ lines_steady (named (book_of b)) (steady (book_of b)) j (drop j (routine (book_of b) k))

module _ (b : List ℕ) (c : Counts) (t : TakenWith b c) (k : ℕ) (h : k < c.routines) where
  here : k < routines b
  here = below_R k t.tabled.sized h

  module _ (mark : ℕ) (tested : List Bool) (w : Tested b mark tested) where
    pub answer_in_the_row : k < mark → get_or tested k false ≡ steady (book_of b) k
    answer_in_the_row g = w.each k g

  pub all_lines_left : SteadyTo b k 0
  unfolding steady steady_by
  all_lines_left = record { rest_decides = steady_by_the_rule (book_of b) (taken_callees_below b t.taken) (named (book_of b)) k }

  module _ (n : ℕ) (size : n ≡ count b k) (j : ℕ) (s : SteadyTo b k j) where
    pub no_line_left : j ≤ n → n ≤ j → true ≡ steady (book_of b) k
    unfolding lines_steady
    no_line_left f g =
        let last : j ≡ count b k = omega (arith, f, g, size) in
        let none : drop j (routine (book_of b) k) ≡ [] = rw last (routine_ends b k here) in
        sym (rw none at s.rest_decides)

    module _ (more : j < n) (first : Bool) (tests : first ≡ line_steady (named (book_of b)) (steady (book_of b)) j (line_of (fields_in b k j))) where
      by_the_line : steady (book_of b) k
          ≡ (first and lines_steady (named (book_of b)) (steady (book_of b)) (suc j) (drop (suc j) (routine (book_of b) k)))
      unfolding lines_steady
      by_the_line =
          rw tests
          (s.rest_decides
          ∙ ap (lines_steady (named (book_of b)) (steady (book_of b)) j) (line_in_the_book b k j here (omega (arith, more, size))))

      pub one_more_steady : not first ≡ false → SteadyTo b k (j + 1)
      unfolding if
      one_more_steady f =
          let so : first ≡ true = not-false first f in
          record { rest_decides = rw (add-one j) (rw so at by_the_line) }

      pub an_unsteady_line : not first ≡ true → false ≡ steady (book_of b) k
      unfolding if
      an_unsteady_line f = let so : first ≡ false = not-true first f in sym (rw so at by_the_line)

-- ---- the row

-- The answers for the routines below k, up to the asked one.
abbrev pub TestedTo : (b : List ℕ) (routine k : ℕ) (tested : List Bool) → Type 0
TestedTo b = KnownTo false (λ c answer. answer ≡ steady (book_of b) c)

pub answer_is : (b : List ℕ) (routine k : ℕ) (tested : List Bool) → TestedTo b routine k tested → routine < k
    → get_or tested routine false ≡ steady (book_of b) routine
answer_is b routine k tested s g = s.below.each routine g
