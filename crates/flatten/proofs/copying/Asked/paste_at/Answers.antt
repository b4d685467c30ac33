-- `Asked::paste_at` is what stands at a flat line, and the place behind it.
-- At every turn the flat line lies in a line of a copy that stands in the program (`LiesIn`); the routine falls. Assumes nothing.
use Rattle.flatten.proofs.Pasting.{pasted_there, in_the_inner, lies_deeper, falls}
use Rattle.flatten.proofs.copying.Asked.paste_at.Goals as goal

pub returns-in-Stands : goal.returns-in-Stands
returns-in-Stands c = search pasted_there

pub open-at-requires : goal.open-at-requires
open-at-requires c = search in_the_inner

pub loop-x-smaller : goal.loop-x-smaller
loop-x-smaller c = search falls

pub loop-x-preserved : goal.loop-x-preserved
loop-x-preserved c = search lies_deeper
