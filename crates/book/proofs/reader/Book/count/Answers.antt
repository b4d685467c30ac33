-- `reader::Book::count` is what is read of the book's bytes.
-- The reader's bytes are a taken book's. Assumes nothing.
use borrow.Author.Rules.{rules}
use Rattle.book.proofs.reader.Book.count.Goals as goal

pub returns : goal.returns
returns c = search rules
