-- `book_verdict` is the book's verdict.
-- The header's verdict, the table's and the lines' stand in order; each decides unless it passes. Assumes nothing.
use borrow.Author.Rules.{rules}
use Rattle.book.proofs.Answers.{header_refuses, header_is_there, sized, table_refuses, tabled, lines_decide}
use Rattle.book.proofs.book_verdict.Goals as goal

pub returns-in_err-header_verdict : goal.returns-in_err-header_verdict
returns-in_err-header_verdict c = search (rules, header_refuses)

pub counts_of-counts-requires : goal.counts_of-counts-requires
counts_of-counts-requires c = search (header_is_there, c.in_ok-header_verdict.was)

pub table_verdict-requires : goal.table_verdict-requires
table_verdict-requires c = search (sized, c.in_ok-header_verdict.was)

pub returns-in_err-table_verdict : goal.returns-in_err-table_verdict
returns-in_err-table_verdict c = search (rules, table_refuses, c.in_ok-header_verdict.was)

pub lines_verdict-requires : goal.lines_verdict-requires
lines_verdict-requires c = search (tabled, c.in_ok-header_verdict.was, c.in_ok-table_verdict.was)

pub returns : goal.returns
returns c = search (lines_decide, c.in_ok-header_verdict.was, c.in_ok-table_verdict.was)
