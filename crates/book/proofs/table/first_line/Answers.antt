-- `table::first_line` is where the routine starts, as its entry says.
-- It is read where it stands. Assumes nothing.
use Rattle.scope.specs.Book.{first_line}
use Rattle.book.proofs.table.first_line.Goals as goal

pub returns : goal.returns
unfolding first_line
returns c = cc
