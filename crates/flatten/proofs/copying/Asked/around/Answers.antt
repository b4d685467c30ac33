-- `Asked::around` is a line of a copy in which a flat line lies.
-- It is the line that starts there if that is not empty; else it is found in the whole routine. Assumes nothing.
use Rattle.flatten.proofs.Pasting.{lies_in_the_top}
use Rattle.flatten.proofs.copying.Asked.around.Goals as goal

pub returns : goal.returns
returns c = search lies_in_the_top
