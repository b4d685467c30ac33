-- `Starts::of` is the part of the table that has the starts of a routine's lines.
-- It lies within the table. Assumes nothing.
use Rattle.std.proofs.Common.{rules}
use Rattle.flatten.proofs.Rows.{part_there, part_end_fits, part_bytes_fit, starts_in_part}
use Rattle.flatten.proofs.lengths.Starts.of.Goals as goal

pub overflow_add-result : goal.overflow_add-result
overflow_add-result c = search part_end_fits

pub offset_bounds-self-at : goal.offset_bounds-self-at
offset_bounds-self-at c = search part_bytes_fit

pub slice_bounds-result-end : goal.slice_bounds-result-end
slice_bounds-result-end c = search (rules, part_there)

pub returns : goal.returns
returns c = search starts_in_part
