-- A row with a place for each routine, and the table of starts, both filled from the lowest routine up.
-- Contracts of this crate cite them, and of crates above that keep rows. Assumes nothing.
use Rattle.std.specs.Prelude.{ℕ, ◌+◌, ◌<◌, ◌≤◌, min, ◌≡◌, List, length, get_or}
use Rattle.scope.specs.Book.{most_routines, most_lines, routines, first_line, first_line_due, count, Taken, book_of}
use Rattle.scope.specs.Flattening.{flat_length, start, most_flat_lines}

-- Lengths stop above 4,096: the test of 13 tells no more.
abbrev pub length_cap : ℕ
length_cap = most_flat_lines + 1

-- What is known of the routines below k, in a row with a place for each routine: in place c stands an a with `Is c a`. (Behind the row,
-- where nothing stands, `none` is read.)
pub record Known {A : Type 0} (none : A) (Is : (routine : ℕ) → A → Type 0) (k : ℕ) (row : List A) : Type 0 where
  pub long : length row ≡ most_routines
  pub each : (c : ℕ) → c < k → Is c (get_or row c none)

-- What is said of the routines below k, each number stopped at the cap.
abbrev pub Row : (said : ℕ → ℕ) (cap k : ℕ) (row : List ℕ) → Type 0
Row said cap = Known 0 (λ c n. n ≡ min (said c) cap)

-- The table has a number for each line, and for each routine's end.
abbrev pub table_length : ℕ
table_length = most_lines + most_routines

-- where the start of line i of routine r stands in it
unfoldable pub slot : (b : List ℕ) (r i : ℕ) → ℕ
slot b r i = first_line b r + r + i

-- how much of it the routines below k fill
unfoldable pub due : (b : List ℕ) (k : ℕ) → ℕ
due b k = first_line_due b k + k

-- The first q numbers are there.
pub record Filled (b : List ℕ) (q : ℕ) (starts : List ℕ) : Type 0 where
  pub each : (r i : ℕ) → r < routines b → i ≤ count b r → slot b r i < q → get_or starts (slot b r i) 0 ≡ min (start (book_of b) r i) length_cap

-- Routine k is measured: its length is n, and its starts are in the table.
pub record Measured (b : List ℕ) (k n : ℕ) (starts : List ℕ) : Type 0 where
  pub length_is : n ≡ min (flat_length (book_of b) k) length_cap
  pub filled : Filled b (due b (k + 1)) starts

-- All are there, of a book that is taken.
pub record Table (b : List ℕ) (starts : List ℕ) : Type 0 where
  pub taken : Taken b
  pub long : length starts ≡ table_length
  pub each : (r i : ℕ) → r < routines b → i ≤ count b r → get_or starts (slot b r i) 0 ≡ min (start (book_of b) r i) length_cap

-- These are the starts of routine k's lines.
pub record StartsOf (b : List ℕ) (k : ℕ) (starts : List ℕ) : Type 0 where
  pub long : length starts ≡ count b k
  pub each : (i d : ℕ) → i < count b k → get_or starts i d ≡ min (start (book_of b) k i) length_cap

-- Every routine is measured.
pub record MeasuredAll (b lengths starts : List ℕ) : Type 0 where
  pub lengths_are : Row (flat_length (book_of b)) length_cap (routines b) lengths
  pub starts_are : Table b starts
