-- `machine::does` does what the definitions' step does before one instruction, and leaves the registers so.
-- One law for each way out (`Steps`); the registers named are there. Assumes nothing.
use Rattle.unit.proofs.Steps.{INC_within, DEC_within, INC_stops, INC_goes_on, DEC_jumps, DEC_goes_on, GO_TO_jumps}
use Rattle.unit.proofs.machine.does.Goals as goal

pub bounds-regs-k : goal.bounds-regs-k
bounds-regs-k c = search INC_within

pub returns-then-v : goal.returns-then-v
returns-then-v c = search INC_stops

pub bounds-regs-k-in-Inc : goal.bounds-regs-k-in-Inc
bounds-regs-k-in-Inc c = search INC_within

pub bounds-regs-k-in-Dec : goal.bounds-regs-k-in-Dec
bounds-regs-k-in-Dec c = search DEC_within

pub returns-then-v-eq0 : goal.returns-then-v-eq0
returns-then-v-eq0 c = search DEC_jumps

pub returns-else-v : goal.returns-else-v
returns-else-v c = search INC_goes_on

pub returns-else-v-eq0 : goal.returns-else-v-eq0
returns-else-v-eq0 c = search DEC_goes_on

pub returns-in-GoTo : goal.returns-in-GoTo
returns-in-GoTo c = search GO_TO_jumps
