-- `quote` answers as the definitions' quote does.
-- A book that is refused is refused with its own refusal; a taken one is quoted. Assumes nothing.
use borrow.Author.Rules.{rules}
use Rattle.quote.proofs.Answers.{book_refused}
use Rattle.quote.proofs.quote.Goals as goal

pub returns-in_err-open : goal.returns-in_err-open
returns-in_err-open c = search (rules, book_refused)
