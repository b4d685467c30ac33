-- `registers::registers_of` has the registers that the bytes say.
-- The first j are read (`ReadTo`). Assumes nothing.
use Rattle.unit.proofs.AsBytes.{all_read}
use Rattle.unit.proofs.registers.registers_of.Goals as goal

pub returns : goal.returns
returns c = search all_read
