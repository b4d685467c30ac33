-- `judging::line_test` is a line's row of tests.
-- Each test of the code is the row's next one: it refuses as the row does, or the row goes on. Assumes nothing.
use Rattle.book.specs.Told.{name_told}
use Rattle.book.proofs.ByKind.{kind_refused, register_refused, target_refused, callee_refused, line_passes}
use Rattle.book.proofs.judging.line_test.Goals as goal

pub returns-in_default : goal.returns-in_default
unfolding name_told
returns-in_default c = search (kind_refused, c.in_default.ensures)

pub returns-then-register_wrong : goal.returns-then-register_wrong
unfolding name_told
returns-then-register_wrong c = search (register_refused, c.in-Ok.ensures)

pub returns-then-target_wrong : goal.returns-then-target_wrong
unfolding name_told
returns-then-target_wrong c = search (target_refused, c.in-Ok.ensures)

pub returns-then-callee_wrong : goal.returns-then-callee_wrong
unfolding name_told
returns-then-callee_wrong c = search (callee_refused, c.in-Ok.ensures)

pub returns : goal.returns
unfolding name_told
returns c = search (line_passes, c.in-Ok.ensures)
