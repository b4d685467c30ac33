-- Document 01, "Flattening": "The result is a book with one routine": which programs such a book can say, and what it is that it says one.
-- Its registers and targets are those of our machine, the number of lines is that of "The book". Assumes nothing.
use Rattle.std.specs.Prelude.{ℕ, ◌≤◌, ◌≡◌, List, [], ◌∷◌, map, length}
use Rattle.scope.specs.Ram.{Program}
use Rattle.scope.specs.Book.{most_lines, Bytes, routines, lines, Taken, book_of}
use Rattle.scope.specs.Flattening.{as_line}
use Rattle.scope.specs.Running.{program_of}
use Rattle.scope.specs.Transitions.{OurProgram}

-- A book with one routine can say a program of our machine that is not too long for a book.
pub record FitsABook (P : Program) : Type 0 where
  pub ours : OurProgram P
  pub not_too_long : length P ≤ most_lines

-- bytes that are a book with one routine, which says this program
pub record Says (b : List ℕ) (P : Program) : Type 0 where
  pub bytes : Bytes b
  pub taken : Taken b
  pub one_routine : routines b ≡ 1
  pub as_many_lines : lines b ≡ length P
  pub its_program : program_of b ≡ P
  pub its_book : book_of b ≡ map as_line P ∷ []
