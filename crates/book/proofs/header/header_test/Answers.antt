-- `header::header_test` is the header's row of tests, past SHORT.
-- Each test of the code is the row's next one: it refuses as the row does, or the row goes on. Assumes nothing.
use Rattle.book.proofs.Rules.{refusing}
use Rattle.scope.specs.Book.{header_test}
use Rattle.book.specs.Told.{name_told, verdict_told}
use Rattle.book.proofs.header.header_test.Goals as goal

pub returns-then-format-ne-THE_FORMAT : goal.returns-then-format-ne-THE_FORMAT
unfolding header_test name_told verdict_told
returns-then-format-ne-THE_FORMAT c = search refusing depth 8

pub returns-then-counts_wrong : goal.returns-then-counts_wrong
unfolding header_test name_told verdict_told
returns-then-counts_wrong c = search refusing depth 8

pub returns-then-offsets_wrong : goal.returns-then-offsets_wrong
unfolding header_test name_told verdict_told
returns-then-offsets_wrong c = search refusing depth 8

pub returns-then-size-stated : goal.returns-then-size-stated
unfolding header_test name_told verdict_told
returns-then-size-stated c = search refusing depth 8

pub returns : goal.returns
unfolding header_test name_told verdict_told
returns c = search refusing depth 8
