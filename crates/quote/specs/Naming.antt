-- Which registers a routine names, itself or through those under it: bit j of its mask is for register j.
-- Only contracts inside this crate cite them. Assumes nothing.
use Rattle.std.specs.Prelude.{ℕ, ◌/◌, ◌%◌, ◌^◌, Bool, false, ◌≡◌, List}
use Rattle.scope.specs.Words.{◌is◌, ◌or◌}
use Rattle.scope.specs.Book.{Line, used, book_of}
use Rattle.scope.specs.Quote.{names, named}
use Rattle.flatten.specs.Rows.{Known}

-- bit j of a number is set
unfoldable pub bit : (j mask : ℕ) → Bool
bit j mask = (mask / 2 ^ j) % 2 is 1

-- The mask has bit j set exactly where register j is such a one.
pub record Marks (such : (register : ℕ) → Bool) (mask : ℕ) : Type 0 where
  pub each : (j : ℕ) → bit j mask ≡ such j

-- .. named (by INC, DEC or REPEAT) .. by a line, or in or under the routine that it uses
unfoldable pub line_names : (b : List ℕ) → Line → (register : ℕ) → Bool
line_names b l j = names j l or used false (named (book_of b) j) l

-- The masks of the routines below k.
abbrev pub Masks : (b : List ℕ) (k : ℕ) (masks : List ℕ) → Type 0
Masks b = Known 0 (λ c mask. Marks (λ j. named (book_of b) j c) mask)
