-- `judging::callee_wrong` is test 10 of the definitions.
-- By the kinds. Assumes nothing.
use Rattle.book.proofs.ByKind.{a_callee_stands, no_callee}
use Rattle.book.proofs.judging.callee_wrong.Goals as goal

pub returns-in-Call : goal.returns-in-Call
returns-in-Call c = search a_callee_stands

pub returns-in-Inc : goal.returns-in-Inc
returns-in-Inc c = search no_callee
