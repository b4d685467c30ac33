-- `Book::open` answers as checking does, and what it makes of a taken book is a reader.
-- The counts are those that checking gives. Assumes nothing.
use borrow.Author.Rules.{rules}
use mathlib.Core.Path.{refl}
use Rattle.book.proofs.Answers.{checked_taken, open_refuses, opened}
use Rattle.book.proofs.reader.Book.open.Goals as goal

pub returns-in_err-counts-clause-answer : goal.returns-in_err-counts-clause-answer
returns-in_err-counts-clause-answer c = search (rules, open_refuses)

pub invariant_of-result : goal.invariant_of-result
invariant_of-result c = search (checked_taken, c.in_ok-counts.was)

pub returns-clause-answer : goal.returns-clause-answer
returns-clause-answer c = opened _ _ c.check.ensures _ c.in_ok-counts.was refl
