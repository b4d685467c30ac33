-- `zn_run` answers C as document 01's page says, and leaves the registers' bytes so.
-- Another length is refused as a run without registers is; with 64 bytes the run is one of the registers that they say. Assumes nothing.
use Rattle.page.proofs.Calls.{other_length, run_is_refused, run_is_done}
use Rattle.page.proofs.zn_run.Goals as goal

pub returns-then-regs-ne-REGISTERS_BYTES : goal.returns-then-regs-ne-REGISTERS_BYTES
returns-then-regs-ne-REGISTERS_BYTES c = search other_length

pub returns-in-Err : goal.returns-in-Err
returns-in-Err c = search run_is_refused

pub returns : goal.returns
returns c = search run_is_done
