-- `header::offsets_wrong` is test 4 of the definitions.
-- Each comparison of the code is one of the test's, in its order; no sum of three such numbers wraps. Assumes nothing.
use Rattle.book.proofs.Rules.{tests}
use Rattle.scope.specs.Book.{offsets_wrong, line_table_due, length_due}
use Rattle.book.proofs.header.offsets_wrong.Goals as goal

pub returns-then-entries-ne-HEADER_BYTES : goal.returns-then-entries-ne-HEADER_BYTES
unfolding offsets_wrong line_table_due length_due
returns-then-entries-ne-HEADER_BYTES c = search tests

pub returns-then-body-due : goal.returns-then-body-due
unfolding offsets_wrong line_table_due length_due
returns-then-body-due c = search tests

pub returns : goal.returns
unfolding offsets_wrong line_table_due length_due
returns c = search tests
