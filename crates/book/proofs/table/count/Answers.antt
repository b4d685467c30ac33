-- `table::count` is the number of the routine's lines, as its entry says.
-- It is read where it stands. Assumes nothing.
use Rattle.scope.specs.Book.{count}
use Rattle.book.proofs.table.count.Goals as goal

pub returns : goal.returns
unfolding count
returns c = cc
