-- `header::counts_wrong` is test 3 of the definitions.
-- Each comparison of the code is one of the test's, in its order. Assumes nothing.
use Rattle.book.proofs.Rules.{tests}
use Rattle.scope.specs.Book.{counts_wrong}
use Rattle.book.proofs.header.counts_wrong.Goals as goal

pub returns-then-routines-eq0 : goal.returns-then-routines-eq0
unfolding counts_wrong
returns-then-routines-eq0 c = search tests

pub returns-then-routines-gt-MOST_ROUTINES : goal.returns-then-routines-gt-MOST_ROUTINES
unfolding counts_wrong
returns-then-routines-gt-MOST_ROUTINES c = search tests

pub returns : goal.returns
unfolding counts_wrong
returns c = search tests
