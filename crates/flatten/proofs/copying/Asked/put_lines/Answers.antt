-- `Asked::put_lines` writes the flat program of a routine, line by line.
-- The first p lines are written (`WrittenTo`). Assumes nothing.
use Rattle.flatten.proofs.Putting.{none_written, target_fits, line_has_room, one_more_written}
use Rattle.flatten.proofs.copying.Asked.put_lines.Goals as goal

pub loop-p-init : goal.loop-p-init
loop-p-init c = search none_written

pub put_line-requires : goal.put_line-requires
put_line-requires c = search (target_fits, line_has_room)

pub loop-p-preserved : goal.loop-p-preserved
loop-p-preserved c = search one_more_written
