-- `read_taken` answers as the definitions' reading does, for a taken book.
-- Tests 12 and 17 in their order; a line that passes is read, and what is read is what stands there. Assumes nothing.
use Rattle.book.proofs.Answers.{no_such_routine, no_such_line, line_found}
use Rattle.book.specs.Told.{name_told}
use Rattle.book.proofs.read_taken.Goals as goal

pub returns-then-b-routine : goal.returns-then-b-routine
unfolding name_told
returns-then-b-routine c = search no_such_routine

pub returns-then-count-line : goal.returns-then-count-line
unfolding name_told
returns-then-count-line c = search no_such_line

pub returns : goal.returns
returns c = search line_found
