-- `steady::line_steady` and `steady::routine_steady` tell whether a line and a routine are steady.
-- What a line uses is below its routine, and its mask in the row; the lines left decide. Assumes nothing.
use Rattle.std.proofs.Common.{arith}
use Rattle.std.proofs.lemmas.Bool.Decides.{nat_tests}
use borrow.Author.Rules.{rules}
use Rattle.scope.specs.Quote as paper
use Rattle.book.specs.Told.{line_told}
use Rattle.book.proofs.Fits.{REPEAT_register}
use Rattle.quote.proofs.Steadiness.{CALL_there, CALL_falls, REPEAT_there, REPEAT_falls, REPEAT_of_a_named, REPEAT_steady, all_lines_left, no_line_left, one_more_steady, an_unsteady_line, has_a_place_of_32}
use Rattle.quote.proofs.steady.Tests.+steadiness.Goals as goal

pub line_steady-routine_steady-requires : goal.line_steady-routine_steady-requires
line_steady-routine_steady-requires t c = (search CALL_falls, search (rules, CALL_there))

pub line_steady-bounds-self-c : goal.line_steady-bounds-self-c
line_steady-bounds-self-c t c = search (has_a_place_of_32, REPEAT_there)

pub line_steady-has-requires : goal.line_steady-has-requires
line_steady-has-requires t c = search REPEAT_register

pub line_steady-returns-then-has : goal.line_steady-returns-then-has
line_steady-returns-then-has t c = search REPEAT_of_a_named

pub line_steady-routine_steady-requires-in-Repeat : goal.line_steady-routine_steady-requires-in-Repeat
line_steady-routine_steady-requires-in-Repeat t c = (search REPEAT_falls, search (rules, REPEAT_there))

pub line_steady-returns-in-Dec : goal.line_steady-returns-in-Dec
unfolding paper.line_steady line_told
line_steady-returns-in-Dec t c = grind (arith, nat_tests)

pub line_steady-returns-in-GoTo : goal.line_steady-returns-in-GoTo
unfolding paper.line_steady line_told
line_steady-returns-in-GoTo t c = grind (arith, nat_tests)

pub line_steady-returns-else-has : goal.line_steady-returns-else-has
line_steady-returns-else-has t c = search REPEAT_steady

pub routine_steady-loop-j-init : goal.routine_steady-loop-j-init
routine_steady-loop-j-init t c = search all_lines_left

pub routine_steady-returns-then-not-line_steady : goal.routine_steady-returns-then-not-line_steady
routine_steady-returns-then-not-line_steady t c = search an_unsteady_line

pub routine_steady-loop-j-preserved : goal.routine_steady-loop-j-preserved
routine_steady-loop-j-preserved t c = search one_more_steady

pub routine_steady-returns : goal.routine_steady-returns
routine_steady-returns t c = search no_line_left
