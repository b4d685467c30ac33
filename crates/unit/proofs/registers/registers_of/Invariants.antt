-- `registers::registers_of` has the registers that the bytes say.
-- The first j are read (`ReadTo`). Assumes nothing.
use Rattle.unit.proofs.AsBytes.{ReadTo}
use Rattle.unit.proofs.registers.registers_of.Given as goal

abbrev pub invariant-loop-j : goal.invariant-loop-j
invariant-loop-j l = ReadTo l.bytes l.j l.reg-items
