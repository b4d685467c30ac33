-- `judging::lines_verdict` is the lines' verdict: the lowest bad line is the one named.
-- The loops keep that all routines below r, and of routine r all lines below j, pass (`PassedTo`). Assumes nothing.
use Rattle.book.specs.Told.{verdict_told}
use Rattle.book.proofs.Scanned.{none_yet, place_fits, line_within, line_passed, line_refused, routine_passed, lines_all_right}
use Rattle.book.proofs.judging.lines_verdict.Goals as goal

pub loop-r-init : goal.loop-r-init
loop-r-init c = search none_yet

pub loop-j-init : goal.loop-j-init
loop-j-init c = search none_yet

pub overflow_add-place : goal.overflow_add-place
overflow_add-place c = search place_fits

pub fields_at-fields-requires : goal.fields_at-fields-requires
fields_at-fields-requires c = search line_within

pub loop-j-preserved : goal.loop-j-preserved
loop-j-preserved c = search line_passed

pub loop-r-preserved : goal.loop-r-preserved
loop-r-preserved c = search routine_passed

pub returns-in-Err : goal.returns-in-Err
returns-in-Err c = search line_refused

pub returns-after-loop-r : goal.returns-after-loop-r
unfolding verdict_told
returns-after-loop-r c = search lines_all_right
