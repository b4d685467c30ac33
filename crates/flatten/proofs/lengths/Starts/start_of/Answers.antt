-- `Starts::start_of` reads where a line starts, stopped at the cap.
-- Its slot lies within the table. Assumes nothing.
use Rattle.flatten.proofs.Rows.{start_there, slot_fits, slot_bytes_fit, start_read}
use Rattle.flatten.proofs.lengths.Starts.start_of.Goals as goal

pub overflow_add-result : goal.overflow_add-result
overflow_add-result c = search slot_fits

pub offset_bounds-self-part : goal.offset_bounds-self-part
offset_bounds-self-part c = search slot_bytes_fit

pub bounds-self-part : goal.bounds-self-part
bounds-self-part c = search start_there

pub returns : goal.returns
returns c = search start_read
