-- `refusals::number` is the table's number of a name.
-- By the table's rows. Assumes nothing.
use Rattle.book.proofs.Rules.{number_of_the_row}
use Rattle.book.proofs.refusals.number.Goals as goal

pub returns : goal.returns
returns c = search number_of_the_row
