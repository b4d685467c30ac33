-- `sums::repeated` keeps the quote of a REPEAT.
-- By the one test of `kept`. Assumes nothing.
use Rattle.std.proofs.Common.{arith}
use Rattle.std.proofs.lemmas.Bool.Decides.{nat_tests}
use Rattle.quote.specs.Sums.{kept}
use Rattle.quote.proofs.sums.repeated.Goals as goal

pub returns : goal.returns
unfolding kept
returns c = grind (arith, nat_tests)
