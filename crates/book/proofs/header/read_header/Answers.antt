-- `header::read_header` has the six numbers of the header.
-- Each is read where it stands, and twelve bytes are there. Assumes nothing.
use borrow.Author.Rules.{rules}
use Rattle.scope.specs.Book.{format, routines, lines, routine_table, line_table, stated_length}
use Rattle.book.proofs.header.read_header.Goals as goal

pub returns : goal.returns
unfolding format routines lines routine_table line_table stated_length
returns c = search rules
