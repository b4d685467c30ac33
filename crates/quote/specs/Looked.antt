-- What one look at the lines of a routine tells of it, and the rows in which that is kept.
-- Only contracts inside this crate cite them. Assumes nothing.
use Rattle.std.specs.Prelude.{ℕ, min, ◌≡◌, List}
use Rattle.scope.specs.Book.{book_of}
use Rattle.scope.specs.Flattening.{flat_length}
use Rattle.scope.specs.Quote.{named, quote}
use Rattle.flatten.specs.Rows.{length_cap, Row}
use Rattle.quote.specs.declared.looking.Looked.{Looked}
use Rattle.quote.specs.declared.looking.Looks.{Looks}
use Rattle.quote.specs.Naming.{Marks, Masks}
use Rattle.quote.specs.Sums.{kept, Numbers, Overs}

-- Routine k is looked at: its length, its mask and its quote.
pub record LookedAt (b : List ℕ) (k : ℕ) (x : Looked) : Type 0 where
  pub length_is : x.length ≡ min (flat_length (book_of b) k) length_cap
  pub mask_is : Marks (λ j. named (book_of b) j k) x.mask
  pub quote_is : x.quote ≡ kept (quote (book_of b) k)

-- Every routine below k is looked at, and what is told of it stands in the rows.
pub record LookedBelow (b : List ℕ) (k : ℕ) (looks : Looks) : Type 0 where
  pub lengths_are : Row (flat_length (book_of b)) length_cap k looks.lengths
  pub masks_are : Masks b k looks.masks
  pub numbers_are : Numbers b k looks.numbers
  pub overs_are : Overs b k looks.overs
