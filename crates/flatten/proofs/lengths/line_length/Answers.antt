-- `lengths::line_length` is the length of a line, stopped at the cap.
-- By the kinds of line; CALL and REPEAT look the routine up in the row. Assumes nothing.
use Rattle.std.proofs.Common.{arith}
use Rattle.scope.specs.Flattening.{line_length}
use Rattle.book.specs.Told.{line_told}
use Rattle.flatten.proofs.Rows.{length_is, CALL_in_the_row, REPEAT_in_the_row, CALL_length, REPEAT_length_fits, REPEAT_length}
use Rattle.flatten.proofs.lengths.line_length.Goals as goal

pub bounds-lengths-c : goal.bounds-lengths-c
bounds-lengths-c c = search CALL_in_the_row

pub bounds-lengths-c-in-Repeat : goal.bounds-lengths-c-in-Repeat
bounds-lengths-c-in-Repeat c = search REPEAT_in_the_row

pub overflow_add-lengths : goal.overflow_add-lengths
overflow_add-lengths c = search REPEAT_length_fits

pub returns-in-Inc : goal.returns-in-Inc
unfolding line_length line_told
returns-in-Inc c = grind arith

pub returns-in-Call : goal.returns-in-Call
unfolding line_length line_told
returns-in-Call c = search (length_is, CALL_length)

pub returns-in-Repeat : goal.returns-in-Repeat
returns-in-Repeat c = search REPEAT_length
