-- `run` answers as the definitions' running does, and leaves the registers so.
-- A book that is refused decides; a taken one is run. Assumes nothing.
use borrow.Author.Rules.{rules}
use Rattle.unit.proofs.Answers.{book_refused}
use Rattle.unit.proofs.run.Goals as goal

pub returns-in_err-open : goal.returns-in_err-open
returns-in_err-open c = search (rules, book_refused)

pub returns : goal.returns
returns c = rw c.in_ok-open.ensures.same_bytes at c.run_taken.ensures
