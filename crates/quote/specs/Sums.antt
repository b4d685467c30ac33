-- A quote as it is kept: a number of 64 bits, or none.
-- Only contracts inside this crate cite them. Assumes nothing.
use Rattle.std.specs.Prelude.{ℕ, ◌≤◌, ◌≡◌, Bool, false, List, get_or, Option, Some, None, if◌then◌else◌}
use Rattle.scope.specs.Words.{◌above◌}
use Rattle.scope.specs.Book.{book_of}
use Rattle.scope.specs.Quote.{quote, most_quote}
use Rattle.flatten.specs.Rows.{Known}

-- None exactly if the quote is above 2^64-1; else it is the number.
unfoldable pub kept : (q : ℕ) → Option ℕ
kept q = if q above most_quote then None else Some q

-- The quotes of the routines below k, in two rows: over exactly if a quote is above 2^64-1; not over, the number is the quote.
abbrev pub Numbers : (b : List ℕ) (k : ℕ) (numbers : List ℕ) → Type 0
Numbers b = Known 0 (λ c number. quote (book_of b) c ≤ most_quote → number ≡ quote (book_of b) c)

abbrev pub Overs : (b : List ℕ) (k : ℕ) (overs : List Bool) → Type 0
Overs b = Known false (λ c over. over ≡ (quote (book_of b) c above most_quote))

-- what the two rows have of routine c
unfoldable pub in_the_rows : (numbers : List ℕ) (overs : List Bool) (c : ℕ) → Option ℕ
in_the_rows numbers overs c = if get_or overs c false then None else Some (get_or numbers c 0)
