-- `flatten` answers as the definitions' flattening does, and leaves the output so.
-- A book that is refused is refused with its own refusal; a taken one is flattened. Assumes nothing.
use borrow.Author.Rules.{rules}
use Rattle.flatten.proofs.Answers.{book_refused}
use Rattle.flatten.proofs.flatten.Goals as goal

pub returns-in_err-open : goal.returns-in_err-open
returns-in_err-open c = search (rules, book_refused)
