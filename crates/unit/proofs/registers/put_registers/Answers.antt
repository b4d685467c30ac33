-- `registers::put_registers` leaves the bytes of the registers.
-- The first j are written (`WrittenTo`). Assumes nothing.
use Rattle.unit.proofs.AsBytes.{none_written, one_more_written, all_are_written}
use Rattle.unit.proofs.registers.put_registers.Goals as goal

pub loop-j-init : goal.loop-j-init
loop-j-init c = search none_written

pub loop-j-preserved : goal.loop-j-preserved
loop-j-preserved c = search one_more_written

pub returns : goal.returns
returns c = search all_are_written
