-- `read_line` answers as the definitions' reading does.
-- A book that is refused decides; a taken one is read. Assumes nothing.
use borrow.Author.Rules.{rules}
use Rattle.book.proofs.Answers.{book_refused}
use Rattle.book.proofs.read_line.Goals as goal

pub returns-in_err-open : goal.returns-in_err-open
returns-in_err-open c = search (rules, book_refused)
