-- What an opened book tells: its counts. Assumes nothing.
use Rattle.scope.specs.Book as book
use Rattle.book.specs.declared.reader.Book.{Book}
use Rattle.book.specs.Told.{counts_told}

unfoldable pub opened_counts : Book → book.Counts
opened_counts b = counts_told b.counts
