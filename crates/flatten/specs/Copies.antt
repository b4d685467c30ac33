-- Copies of routines in a flat program: that they fit, in which of their lines a flat line lies, and what stands there.
-- Only contracts inside this crate cite them. Assumes nothing.
use Rattle.std.specs.Prelude.{ℕ, ◌+◌, ◌<◌, ◌≤◌, ◌≡◌, List}
use Rattle.scope.specs.Ram.{Program, Has}
use Rattle.scope.specs.Book.{routines, count, book_of}
use Rattle.scope.specs.Flattening.{flat_length, start, copy, most_flat_lines}
use Rattle.scope.proofs.FlatLines.{Stands}
use Rattle.book.specs.Told.{instruction_told}
use Rattle.flatten.specs.declared.copying.Place.{Place}
use Rattle.flatten.specs.declared.copying.Pasted.{Pasted}
use Rattle.flatten.specs.declared.copying.Inside.{Inside}
use Rattle.flatten.specs.declared.copying.Inside.TheVariants as inside

-- ---- where a flat line lies

-- A copy of routine k that begins at base ends within 4,096 lines.
pub record CopyWithin (b : List ℕ) (k base : ℕ) : Type 0 where
  pub a_routine : k < routines b
  pub ends_within : base + flat_length (book_of b) k ≤ most_flat_lines

-- Flat line p lies in that copy, ..
pub record InTheCopy (b : List ℕ) (k base p : ℕ) : Type 0 where
  pub copy_within : CopyWithin b k base
  pub from : base ≤ p
  pub to : p < base + flat_length (book_of b) k

-- .. and in line i of it.
pub record InTheLine (b : List ℕ) (k base i p : ℕ) : Type 0 where
  pub copy_within : CopyWithin b k base
  pub a_line : i < count b k
  pub from : base + start (book_of b) k i ≤ p
  pub to : p < base + start (book_of b) k (i + 1)

-- A place is in the same copy as another, at the line in which flat line p lies.
pub record LineAround (b : List ℕ) (copy : Place) (p : ℕ) (at : Place) : Type 0 where
  pub same_routine : at.routine ≡ copy.routine
  pub same_base : at.base ≡ copy.base
  pub in_the_line : InTheLine b copy.routine copy.base.0 at.line.0 p

-- Flat line p is where line i of the copy starts, or its end.
pub record StartsAt (b : List ℕ) (k base i p : ℕ) : Type 0 where
  pub copy_within : CopyWithin b k base
  pub a_line_or_end : i ≤ count b k
  pub starts_there : p ≡ base + start (book_of b) k i

-- ---- what stands in a program

-- the copy of routine k that begins at base, and others around it
abbrev pub HasCopy : (P : Program) (b : List ℕ) (k base : ℕ) → Type 0
HasCopy P b k base = Stands P base (copy (book_of b) k base)

-- Flat line p lies in the place's line, of a copy that stands in the program.
pub record LiesIn (P : Program) (b : List ℕ) (at : Place) (p : ℕ) : Type 0 where
  pub in_the_line : InTheLine b at.routine at.base.0 at.line.0 p
  pub has_copy : HasCopy P b at.routine at.base.0

-- Flat line p is where the place starts, in a copy that stands in the program.
pub record ComesTo (P : Program) (b : List ℕ) (at : Place) (p : ℕ) : Type 0 where
  pub starts_at : StartsAt b at.routine at.base.0 at.line.0 p
  pub has_copy : HasCopy P b at.routine at.base.0

-- This stands at flat line p, and the next flat line is where the place behind it starts.
pub record PastedAt (P : Program) (b : List ℕ) (p : ℕ) (x : Pasted) : Type 0 where
  pub stands : Has P p (instruction_told x.instruction)
  pub behind_it : ComesTo P b x.behind (p + 1)

-- ---- what is found in a line of a copy, whatever the program in which the copy stands

pub record FoundThere (b : List ℕ) (k base p : ℕ) (x : Pasted) : Type 0 where
  pub pasted : (P : Program) → HasCopy P b k base → PastedAt P b p x

pub record DeeperThere (b : List ℕ) (k base p : ℕ) (inner : Place) : Type 0 where
  pub lower : inner.routine < k
  pub in_the_copy : InTheCopy b inner.routine inner.base.0 p
  pub has_copy : (P : Program) → HasCopy P b k base → HasCopy P b inner.routine inner.base.0

unfoldable pub InsideIs : (b : List ℕ) (k base p : ℕ) → Inside → Type 0
InsideIs b k base p (inside.Stands x) = FoundThere b k base p x
InsideIs b k base p (inside.Deeper inner) = DeeperThere b k base p inner
