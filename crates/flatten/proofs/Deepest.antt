-- The depth of a routine, line by line: the deepest of the routines that its first lines use, and at its end one more.
-- What is said of the first j + 1 lines is the larger of what is said of the first j and of the next. Assumes nothing.
use Prim.Native.Nat.{ℕ, suc, ◌+◌, ◌<◌, ◌≤◌, min, max}
use native.Mathlib.Omega.{arith}
use native.Mathlib.Numerals.{add-one}
use mathlib.Core.Path.{◌≡◌, refl, sym, ◌∙◌}
use mathlib.Core.Logic.{⊎_elim}
use mathlib.Core.List.{List, ◌∷◌}
use lib.ListN.{get_or, take, drop}
use Rattle.scope.specs.Words.{◌above◌}
use Rattle.scope.specs.Book as book
use Rattle.scope.specs.Book.{routines, count, line_of, fields_in, routine, book_of, used}
use Rattle.scope.specs.Flattening.{most_open, deepest, depth_by, depth}
use Rattle.scope.proofs.Verdicts.{one_holds, above_tells}
use Rattle.scope.proofs.Lists.{said_to_the_next}
use Rattle.scope.proofs.Lowest.{depth_by_the_rule}
use Rattle.scope.proofs.TakenBook.{taken_callees_below, line_in_the_book, all_its_lines}
use Rattle.book.specs.declared.header.Counts.{Counts}
use Rattle.book.specs.declared.lines.Reg.{Reg}
use Rattle.book.specs.declared.lines.Line.{Line}
use Rattle.book.specs.declared.lines.Line.TheVariants as line
use Rattle.book.specs.Told.{line_told}
use Rattle.book.specs.Asked.{TakenWith}
use Rattle.book.proofs.Scanned.{below_R}
use Rattle.flatten.specs.Rows.{Row}
use Rattle.flatten.specs.Depths.{depth_cap}
use Rattle.flatten.proofs.Rows.{said_of_the_line, CALL_looked_up, REPEAT_looked_up, KnownTo}

-- ---- a line

module _ (b : List ℕ) (c : Counts) (l : Line) (k j : ℕ) (t : TakenWith b c) (h : k < c.routines) (s : j < count b k)
    (e : line_told l ≡ line_of (fields_in b k j)) where
  pub depth_is : (n : ℕ) {m : Line} → l ≡ m → n ≡ min (used 0 (depth (book_of b)) (line_told m)) depth_cap
      → n ≡ min (used 0 (depth (book_of b)) (line_of (fields_in b k j))) depth_cap
  depth_is = said_of_the_line b c l k j t h s e (used 0 (depth (book_of b))) depth_cap

  module _ (row : List ℕ) (w : Row (depth (book_of b)) depth_cap k row) where
    pub CALL_depth : {q : ℕ} → l ≡ line.Call q → get_or row q 0 ≡ min (depth (book_of b) q) depth_cap
    CALL_depth = CALL_looked_up b c l k j t h s e 0 _ row w

    pub REPEAT_depth : {g : Reg} {q : ℕ} → l ≡ line.Repeat g q → get_or row q 0 ≡ min (depth (book_of b) q) depth_cap
    REPEAT_depth = REPEAT_looked_up b c l k j t h s e 0 _ row w

-- ---- a routine

deepest_to_the_next : (f : ℕ → ℕ) {l : book.Line} {rest : List book.Line} (ls : List book.Line) (i : ℕ) → drop i ls ≡ l ∷ rest
    → deepest f (take (suc i) ls) ≡ max (deepest f (take i ls)) (used 0 f l)
unfolding deepest
deepest_to_the_next f =
    said_to_the_next (deepest f) (used 0 f) max (λ x xs. refl) (λ a. omega arith) (λ a. omega arith) (λ a b c. omega arith)

-- The deepest that the first j of routine k's n lines use.
pub record DeepestTo (b : List ℕ) (k n j d : ℕ) : Type 0 where
  pub upto : j ≤ n
  pub so_far : d ≡ min (deepest (depth (book_of b)) (take j (routine (book_of b) k))) depth_cap
  pub capped : d ≤ depth_cap

pub none_looked_at : (b : List ℕ) (k n : ℕ) → DeepestTo b k n 0 0
unfolding deepest
none_looked_at b k n = record { upto = omega arith; so_far = refl; capped = omega arith }

module _ (b : List ℕ) (c : Counts) (k n : ℕ) (t : TakenWith b c) (h : k < c.routines) (size : n ≡ count b k) (j d : ℕ)
    (s : DeepestTo b k n j d) where
  here : k < routines b
  here = below_R k t.tabled.sized h

  pub one_more_looked_at : (m d' : ℕ) → j < n → m ≡ min (used 0 (depth (book_of b)) (line_of (fields_in b k j))) depth_cap → d' ≡ max d m
      → DeepestTo b k n (j + 1) d'
  one_more_looked_at m d' g e f =
      let next = deepest_to_the_next (depth (book_of b)) (routine (book_of b) k) j (line_in_the_book b k j here (rw size at g)) in
      record {
        upto = omega (arith, g);
        so_far = rw (add-one j) (omega (arith, s.so_far, e, f, next));
        capped = omega (arith, e, f, s.capped);
      }

  pub routine_depth_is : (r : ℕ) → n ≤ j → r ≡ min (1 + d) depth_cap → r ≡ min (depth (book_of b) k) depth_cap
  unfolding depth_by
  routine_depth_is r g e =
      let all = rw (all_its_lines b k j here (omega (arith, size, g))) at s.so_far in
      omega (arith, e, all, depth_by_the_rule (book_of b) (taken_callees_below b t.taken) k)

-- ---- the row

-- The depths of the routines below k, up to the asked one.
abbrev pub DepthsTo : (b : List ℕ) (routine k : ℕ) (depths : List ℕ) → Type 0
DepthsTo b = KnownTo 0 (λ c n. n ≡ min (depth (book_of b) c) depth_cap)

-- ---- the test

-- Stopped above 32, a depth is above 32 where it was.
pub too_deep_tells : (m n : ℕ) → m ≡ min n depth_cap → (m above most_open) ≡ (n above most_open)
too_deep_tells m n stopped =
    ⊎_elim
    (λ (deep : most_open < m). (above_tells m most_open).when_true.1 deep ∙ sym ((above_tells n most_open).when_true.1 (omega (arith, deep, stopped))))
    (λ (flat : m ≤ most_open). (above_tells m most_open).when_false.1 flat ∙ sym ((above_tells n most_open).when_false.1 (omega (arith, flat, stopped))))
    (one_holds (above_tells m most_open))

-- So the row tells of the asked routine whether it is too deep.
pub too_deep_in_the_row : (b : List ℕ) (routine k : ℕ) (depths : List ℕ) → DepthsTo b routine k depths → routine < k
    → (get_or depths routine 0 above most_open) ≡ (depth (book_of b) routine above most_open)
too_deep_in_the_row b routine k depths s g = too_deep_tells (get_or depths routine 0) (depth (book_of b) routine) (s.below.each routine g)
