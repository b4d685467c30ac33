-- The depth of a routine is that of its deepest chain of routines open inside one another. In a taken book it is at most 32.
-- A chain goes down in number at each use, and of the routines used the deepest is one of them. Assumes nothing.
use Prim.Native.Nat.{ℕ, zero, suc, ◌+◌, ◌≤◌, ◌<◌, max}
use mathlib.Core.Path.{◌≡◌, refl}
use mathlib.Core.Logic.{⊎_elim}
use mathlib.Core.List.{List, [], ◌∷◌}
use native.Mathlib.Omega.{arith}
use native.Mathlib.Decide.{dec_le}
use lib.ListN.{drop}
use Rattle.scope.specs.Words.{◌above◌}
use Rattle.scope.specs.Book.{routines, Line, Taken, Book, routine, book_of, used, LineUses, Uses, CalleesBelow}
use Rattle.scope.specs.Flattening.{most_open, deepest, depth_by, depth}
use Rattle.scope.specs.Depth.{Opened, alone, around, OpensTooMany}
use Rattle.scope.proofs.Verdicts.{Tells, in_words, above_tells}
use Rattle.scope.proofs.Lists.{nothing_stands}
use Rattle.scope.proofs.Lowest.{used_is, one_used_or_none, depth_by_the_rule}
use Rattle.scope.proofs.TakenBook.{taken_book, taken_callees_below}

-- ---- the deepest of the routines that some lines use

deepest_bounds :
    (f : ℕ → ℕ) (ls : List Line) (i : ℕ) {l : Line} {rest : List Line} {c : ℕ} → drop i ls ≡ l ∷ rest → LineUses l c → f c ≤ deepest f ls
unfolding deepest
deepest_bounds f [] i e u = nothing_stands i e
deepest_bounds f (m ∷ ls) zero {l} e u =
    let z : m ≡ l = cc in
    rw z (omega (arith, used_is 0 f u))
deepest_bounds f (m ∷ ls) (suc i) e u = omega (arith, deepest_bounds f ls i e u)

-- the lines use none with a number above 0, or one of those that they use has it
data DeepestIs (f : ℕ → ℕ) (ls : List Line) (n : ℕ) : Type 0 where
  none : n ≡ 0 → DeepestIs f ls n
  some : (i : ℕ) {l : Line} {rest : List Line} {c : ℕ} → drop i ls ≡ l ∷ rest → LineUses l c → n ≡ f c → DeepestIs f ls n

module _ {f : ℕ → ℕ} {l : Line} {ls : List Line} where
  by_the_rest : {n : ℕ} → DeepestIs f ls n → DeepestIs f (l ∷ ls) n
  by_the_rest (none z) = none z
  by_the_rest (some i e u z) = some (suc i) e u z

  by_the_larger : {m n : ℕ} → DeepestIs f (l ∷ ls) m → DeepestIs f (l ∷ ls) n → DeepestIs f (l ∷ ls) (max m n)
  by_the_larger {m} {n} x y = go (dec_le m n)
    where
      go : Dec (m ≤ n) → DeepestIs f (l ∷ ls) (max m n)
      go (yes h) = let z : max m n ≡ n = omega arith in rw z y
      go (no h) = let z : max m n ≡ m = omega arith in rw z x

by_the_first : (f : ℕ → ℕ) (l : Line) (ls : List Line) → DeepestIs f (l ∷ ls) (used 0 f l)
by_the_first f l ls = ⊎_elim none (λ u. some 0 refl u.1 u.2) (one_used_or_none 0 f l)

deepest_is : (f : ℕ → ℕ) (ls : List Line) → DeepestIs f ls (deepest f ls)
unfolding deepest
deepest_is f [] = none refl
deepest_is f (l ∷ ls) = by_the_larger (by_the_first f l ls) (by_the_rest (deepest_is f ls))

-- ---- chains

module _ (book : Book) (ok : CalleesBelow book) where
  depth_is : (a : ℕ) → depth book a ≡ 1 + deepest (depth book) (routine book a)
  unfolding depth_by
  depth_is = depth_by_the_rule book ok

  pub depth_bounds : {a n c : ℕ} → Opened book a n c → n ≤ depth book a
  depth_bounds {a} alone = omega (arith, depth_is a)
  depth_bounds {a} (around u o) =
      omega (arith, depth_is a, depth_bounds o, deepest_bounds (depth book) (routine book a) u.at_line u.stands u.line_uses)

  reached_below : (bound a : ℕ) → a < bound → (c : ℕ) × Opened book a (depth book a) c
  unfolding CalleesBelow
  reached_below zero a h = absurd (omega arith)
  reached_below (suc bound) a h = go (λ b. reached_below bound b) (deepest_is (depth book) (routine book a))
    where
      go :
          ((b : ℕ) → b < bound → (c : ℕ) × Opened book b (depth book b) c)
          → DeepestIs (depth book) (routine book a) (deepest (depth book) (routine book a)) → (c : ℕ) × Opened book a (depth book a) c
      go below (none z) =
          let e : depth book a ≡ 1 = omega (arith, depth_is a, z) in
          (a, rw e alone)
      go below (some i {l} {rest} {c = b} e u z) =
          let uses : Uses book a b = record { at_line = i; line = l; rest = rest; stands = e; line_uses = u } in
          let (c, o) = below b (omega (arith, ok a b uses)) in
          let d : depth book a ≡ suc (depth book b) = omega (arith, depth_is a, z) in
          (c, rw d (around uses o))

  pub depth_reached : (a : ℕ) → (c : ℕ) × Opened book a (depth book a) c
  depth_reached a = reached_below (suc a) a (omega arith)

  pub opens_below : {a n c : ℕ} → Opened book a n c → n + c ≤ suc a
  unfolding CalleesBelow
  opens_below alone = omega arith
  opens_below {a} (around {b} u o) = omega (arith, ok a b u, opens_below o)

  -- The test of 11 tells whether there is a chain of more than 32.
  pub depth_tells : (k : ℕ) → Tells (depth book k above most_open) (OpensTooMany book k) (¬ OpensTooMany book k)
  depth_tells k =
      in_words (above_tells (depth book k) most_open)
      (λ deep. record { how_many = depth book k; innermost = (depth_reached k).0; opened = (depth_reached k).1; too_many = deep })
      (λ low o. omega (arith, low, depth_bounds o.opened, o.too_many))
      (λ o n. n o)

-- ---- a taken book has at most 32 routines

pub no_more_than_32_open : (b : List ℕ) → Taken b → {k n c : ℕ} → k < routines b → Opened (book_of b) k n c → n ≤ most_open
no_more_than_32_open b t h o =
    omega (arith, h, opens_below (book_of b) (taken_callees_below b t) o, (taken_book b t).header.routines_to_32)
