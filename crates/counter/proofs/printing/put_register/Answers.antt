-- `printing::put_register` prints the line of a register that is not 0.
-- It is a word and two numbers. Assumes nothing.
use Rattle.counter.proofs.Lines.{zero_not_printed}
use Rattle.counter.proofs.printing.put_register.Goals as goal

pub returns-then-v-eq-NOT_PRINTED : goal.returns-then-v-eq-NOT_PRINTED
returns-then-v-eq-NOT_PRINTED c = search zero_not_printed
