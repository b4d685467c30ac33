-- `Refusal::at` tells the refusal of that name and place.
-- It is made of them. Assumes nothing.
use mathlib.Core.Path.{refl}
use Rattle.book.specs.Told.{refusal_told}
use Rattle.book.proofs.refusals.Refusal.at.Goals as goal

pub returns : goal.returns
unfolding refusal_told
returns c = refl
