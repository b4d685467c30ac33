-- `check` answers as the definitions do.
-- The book's verdict decides, and a taken book has a header to read the counts from. Assumes nothing.
use borrow.Author.Rules.{rules}
use Rattle.book.proofs.Answers.{check_refuses, book_has_a_header, check_takes}
use Rattle.book.proofs.check.Goals as goal

pub returns-in_err-book_verdict : goal.returns-in_err-book_verdict
returns-in_err-book_verdict c = search (rules, check_refuses)

pub counts_of-requires : goal.counts_of-requires
counts_of-requires c = search (book_has_a_header, c.in_ok-book_verdict.was)

pub returns : goal.returns
returns c = search (check_takes, c.in_ok-book_verdict.was)
