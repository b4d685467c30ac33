-- `run_taken` answers as the definitions' running does, for a taken book, and leaves the registers so.
-- Tests 15, 16 and 17 in their order; a book that passes them is run. Assumes nothing.
use Rattle.book.specs.Told.{name_told}
use Rattle.unit.proofs.Answers.{not_flat, not_32_registers, line_past_the_end, run_answers}
use Rattle.unit.proofs.run_taken.Goals as goal

pub returns-then-flat-gt1 : goal.returns-then-flat-gt1
unfolding name_told
returns-then-flat-gt1 c = search not_flat

pub returns-then-regs-ne-REGISTERS : goal.returns-then-regs-ne-REGISTERS
unfolding name_told
returns-then-regs-ne-REGISTERS c = search not_32_registers

pub returns-then-flat-start : goal.returns-then-flat-start
unfolding name_told
returns-then-flat-start c = search line_past_the_end

pub returns : goal.returns
returns c = search run_answers
