-- `lengths::part` is where the starts of a routine stand in the table.
-- By the definition of `slot`. Assumes nothing.
use Rattle.flatten.proofs.Rows.{part_is}
use Rattle.flatten.proofs.lengths.part.Goals as goal

pub returns : goal.returns
returns c = search part_is
