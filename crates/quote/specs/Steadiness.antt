-- The row of answers of the steady test. Only contracts inside this crate cite it. Assumes nothing.
use Rattle.std.specs.Prelude.{ℕ, Bool, false, ◌≡◌, List}
use Rattle.scope.specs.Book.{book_of}
use Rattle.scope.specs.Quote.{steady}
use Rattle.flatten.specs.Rows.{Known}

-- Whether the routines below the mark are steady.
abbrev pub Tested : (b : List ℕ) (mark : ℕ) (tested : List Bool) → Type 0
Tested b = Known false (λ c answer. answer ≡ steady (book_of b) c)
