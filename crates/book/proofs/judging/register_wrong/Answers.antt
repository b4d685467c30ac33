-- `judging::register_wrong` is test 8 of the definitions.
-- By the kinds. Assumes nothing.
use Rattle.book.proofs.ByKind.{zero_stands, a_register_stands}
use Rattle.book.proofs.judging.register_wrong.Goals as goal

pub returns-in-GoTo : goal.returns-in-GoTo
returns-in-GoTo c = search zero_stands

pub returns-in-Inc : goal.returns-in-Inc
returns-in-Inc c = search a_register_stands
