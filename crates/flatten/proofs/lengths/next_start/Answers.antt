-- `lengths::next_start` is where the next line starts, stopped at the cap.
-- It starts behind the line before it. Assumes nothing.
use Rattle.flatten.proofs.Rows.{next_start_is}
use Rattle.flatten.proofs.lengths.next_start.Goals as goal

pub returns : goal.returns
returns c = search next_start_is
