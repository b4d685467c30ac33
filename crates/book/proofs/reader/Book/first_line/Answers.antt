-- `reader::Book::first_line` is what is read of the book's bytes.
-- The reader's bytes are a taken book's. Assumes nothing.
use borrow.Author.Rules.{rules}
use Rattle.book.proofs.reader.Book.first_line.Goals as goal

pub returns : goal.returns
returns c = search rules
