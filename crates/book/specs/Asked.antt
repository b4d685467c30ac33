-- What the readers of a book ask of its bytes before they read, and what the header's readers say of theirs.
-- Each is a record of plain facts, so that a caller who has checked the book has them at hand. Assumes nothing.
use Rattle.std.specs.Prelude.{ℕ, ◌+◌, ◌*◌, ◌≤◌, ◌≡◌, List, length}
use Rattle.scope.specs.Refusals.{pass}
use Rattle.scope.specs.Book.{most_routines, most_lines, header_bytes, entry_bytes, line_bytes, format, routines, lines, routine_table, line_table, stated_length, table_verdict, Taken}
use Rattle.book.specs.declared.header.Header.{Header}
use Rattle.book.specs.declared.header.Counts.{Counts}

-- the six numbers of b's header
pub record HeaderOf (b : List ℕ) (h : Header) : Type 0 where
  pub format_is : h.format ≡ format b
  pub routines_are : h.routines ≡ routines b
  pub lines_are : h.lines ≡ lines b
  pub routine_table_is : h.entries ≡ routine_table b
  pub line_table_is : h.body ≡ line_table b
  pub stated_length_is : h.stated ≡ stated_length b

-- the counts that b states
pub record CountsOf (b : List ℕ) (c : Counts) : Type 0 where
  pub routines_are : c.routines ≡ routines b
  pub lines_are : c.lines ≡ lines b

-- what a book past 1 to 5 gives: its counts, and as many bytes as they need
pub record Sized (b : List ℕ) (c : Counts) : Type 0 where
  pub counts : CountsOf b c
  pub some_routine : 1 ≤ c.routines
  pub routines_to_32 : c.routines ≤ most_routines
  pub lines_to_4096 : c.lines ≤ most_lines
  pub size : length b ≡ header_bytes + entry_bytes * c.routines + line_bytes * c.lines

-- and past 6
pub record Tabled (b : List ℕ) (c : Counts) : Type 0 where
  pub sized : Sized b c
  pub table_passes : table_verdict b ≡ pass

-- taken, and its counts
pub record TakenWith (b : List ℕ) (c : Counts) : Type 0 where
  pub taken : Taken b
  pub tabled : Tabled b c

-- the entry of routine r stands in the bytes
pub record EntryWithin (b : List ℕ) (r : ℕ) : Type 0 where
  pub in_the_bytes : header_bytes + entry_bytes * r + entry_bytes ≤ length b

-- line i of the whole book, of R routines, stands in the bytes
pub record LineWithin (b : List ℕ) (R i : ℕ) : Type 0 where
  pub routines_are : R ≡ routines b
  pub in_the_bytes : header_bytes + entry_bytes * R + line_bytes * i + line_bytes ≤ length b
