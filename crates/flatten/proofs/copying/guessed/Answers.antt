-- `copying::guessed` finds the line of a copy in which a flat line lies where it is the guessed one, or the one behind it.
-- A routine has at most 4,096 lines, so a line of it has one behind it or an end. Assumes nothing.
use Rattle.flatten.proofs.Finding.{line_of_a_routine}
use Rattle.flatten.proofs.copying.guessed.Goals as goal

pub behind-requires : goal.behind-requires
behind-requires c = search line_of_a_routine

pub behind-next-requires : goal.behind-next-requires
behind-next-requires c = search line_of_a_routine
