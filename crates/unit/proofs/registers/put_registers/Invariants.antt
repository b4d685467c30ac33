-- `registers::put_registers` leaves the bytes of the registers.
-- The first j are written (`WrittenTo`). Assumes nothing.
use Rattle.unit.proofs.AsBytes.{WrittenTo}
use Rattle.unit.proofs.registers.put_registers.Given as goal

abbrev pub invariant-loop-j : goal.invariant-loop-j
invariant-loop-j l = WrittenTo l.regs l.initial.bytes l.j l.bytes
