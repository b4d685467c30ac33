-- `judging::target_wrong` is test 9 of the definitions.
-- By the kinds. Assumes nothing.
use Rattle.book.proofs.ByKind.{no_operand, a_target_stands, no_target}
use Rattle.book.proofs.judging.target_wrong.Goals as goal

pub returns-in-Inc : goal.returns-in-Inc
returns-in-Inc c = search no_operand

pub returns-in-Dec : goal.returns-in-Dec
returns-in-Dec c = search a_target_stands

pub returns-in-Call : goal.returns-in-Call
returns-in-Call c = search no_target
