-- `copying::look_inside` finds what a line of a copy leaves at a flat line.
-- By the kinds of line. Assumes nothing.
use Rattle.flatten.proofs.Pasting.{line_below_most, DEC_target_there, GO_TO_target_there, is_REPEAT, INC_found, DEC_found, GO_TO_found, CALL_found}
use Rattle.flatten.proofs.copying.look_inside.Goals as goal

pub behind-requires : goal.behind-requires
behind-requires c = search line_below_most

pub moved-requires : goal.moved-requires
moved-requires c = search DEC_target_there

pub behind-requires-in-Dec : goal.behind-requires-in-Dec
behind-requires-in-Dec c = search line_below_most

pub moved-requires-in-GoTo : goal.moved-requires-in-GoTo
moved-requires-in-GoTo c = search GO_TO_target_there

pub behind-requires-in-GoTo : goal.behind-requires-in-GoTo
behind-requires-in-GoTo c = search line_below_most

pub in_repeat-requires : goal.in_repeat-requires
in_repeat-requires c = search is_REPEAT

pub returns-in-Inc : goal.returns-in-Inc
returns-in-Inc c = search INC_found

pub returns-in-Dec : goal.returns-in-Dec
returns-in-Dec c = search DEC_found

pub returns-in-GoTo : goal.returns-in-GoTo
returns-in-GoTo c = search GO_TO_found

pub returns-in-Call : goal.returns-in-Call
returns-in-Call c = search CALL_found
