-- `depth::line_depth` is how many routines are open inside a line, stopped at the cap.
-- By the kinds of line; the routine that CALL and REPEAT use is looked up in the row. Assumes nothing.
use Rattle.std.proofs.Common.{arith}
use Rattle.scope.specs.Book.{used}
use Rattle.book.proofs.Fits.{callee_below}
use Rattle.book.specs.Told.{line_told}
use Rattle.flatten.proofs.Rows.{callee_in_the_row}
use Rattle.flatten.proofs.depth.line_depth.Goals as goal

pub bounds-depths-c : goal.bounds-depths-c
bounds-depths-c c = search callee_in_the_row

pub returns-in-Inc : goal.returns-in-Inc
unfolding used line_told
returns-in-Inc c = grind arith

pub returns-in-Call : goal.returns-in-Call
unfolding used line_told
returns-in-Call c = grind (arith, c.requires.row.each c.in-Call.c (search callee_below))
