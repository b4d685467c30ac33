-- `judging::limits` is the row of limits.
-- It is made so; no sum wraps. Assumes nothing.
use mathlib.Core.Path.{refl}
use Rattle.book.specs.Limits.{limits}
use Rattle.book.proofs.judging.limits.Goals as goal

pub returns : goal.returns
unfolding limits
returns c = refl
