-- `judging::within` tells whether a line is within the limits of a row.
-- Each comparison of the code is one of the test's, in its order. Assumes nothing.
use Rattle.book.proofs.Rules.{tests}
use Rattle.book.specs.Limits.{within}
use Rattle.book.proofs.judging.within.Goals as goal

pub returns-then-kind-ge-KINDS : goal.returns-then-kind-ge-KINDS
unfolding within
returns-then-kind-ge-KINDS c = search tests

pub returns-then-limit-f : goal.returns-then-limit-f
unfolding within
returns-then-limit-f c = search tests

pub returns : goal.returns
unfolding within
returns c = search tests
