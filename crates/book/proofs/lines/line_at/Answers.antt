-- `lines::line_at` is line j of the routine.
-- Past the table's tests every line of a routine is a line of the book, so it stands in the bytes. Assumes nothing.
use Rattle.book.proofs.Scanned.{place_fits, line_within}
use Rattle.scope.specs.Book.{fields_in, line_number}
use Rattle.book.proofs.lines.line_at.Goals as goal

pub overflow_add-i : goal.overflow_add-i
overflow_add-i c = search place_fits

pub fields_at-requires : goal.fields_at-requires
fields_at-requires c = search line_within

pub returns : goal.returns
unfolding fields_in line_number
returns c = cc
