-- `flattens` tells whether a routine of a taken book flattens, and how long it is then.
-- Tests 12, 11 and 13 in their order. Assumes nothing.
use Rattle.book.specs.Told.{name_told}
use Rattle.flatten.proofs.Answers.{no_such_routine, too_deep, too_long, it_flattens}
use Rattle.flatten.proofs.flattens.Goals as goal

pub returns-then-b-routine : goal.returns-then-b-routine
unfolding name_told
returns-then-b-routine c = search no_such_routine

pub returns-then-too_deep : goal.returns-then-too_deep
unfolding name_told
returns-then-too_deep c = search too_deep

pub returns-then-n-gt-MOST_FLAT_LINES : goal.returns-then-n-gt-MOST_FLAT_LINES
unfolding name_told
returns-then-n-gt-MOST_FLAT_LINES c = search too_long

pub returns : goal.returns
returns c = search it_flattens
