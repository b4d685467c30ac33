-- `printing::put_registers` prints one line for each register that is not 0, in order.
-- What is printed so far and the lines of the registers from j on are the whole text. Assumes nothing.
use mathlib.Core.Path.{◌≡◌}
use mathlib.Core.List.{◌++◌}
use lib.ListN.{drop}
use Rattle.scope.specs.Shop.{register_lines}
use Rattle.counter.proofs.printing.put_registers.Given as goal

abbrev pub invariant-loop-j : goal.invariant-loop-j
invariant-loop-j l = l.out.items ++ register_lines l.j (drop l.j l.regs) ≡ l.initial.out.items ++ register_lines 0 l.regs
