-- `machine::run_on` ends as the run of the book's program does, and leaves the registers so.
-- At every turn the rest of the run ends as the whole does (`Keeps`); the budget less the steps falls. Assumes nothing.
use Prim.Native.Nat.{◌-◌}
use Rattle.unit.proofs.Runs.{Keeps}
use Rattle.unit.proofs.machine.run_on.Given as goal

abbrev pub invariant-run : goal.invariant-run
invariant-run l = Keeps l.flat.bytes.now l.n l.budget l.initial.line.0 l.initial.regs l.line.0 l.steps l.regs

abbrev pub decreases-run : goal.decreases-run
decreases-run l = l.budget - l.steps
