-- `lines::fields_at` has what stands at line i of the whole book.
-- Its four bytes are read where they stand, and they are there. Assumes nothing.
use Rattle.scope.specs.Book.{fields_at, line_offset, line_table_due, byte}
use Rattle.book.specs.Told.{fields_told}
use Rattle.book.proofs.lines.fields_at.Goals as goal

pub returns : goal.returns
unfolding fields_told fields_at line_offset line_table_due byte
returns c = cc
