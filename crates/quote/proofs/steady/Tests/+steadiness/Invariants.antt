-- `steady::line_steady` and `steady::routine_steady` tell whether a line and a routine are steady.
-- The routine number falls, then the lines left (`SteadyTo`); a routine below the mark is looked up. Assumes nothing.
use Prim.Native.Nat.{◌+◌, ◌*◌}
use Rattle.quote.proofs.Steadiness.{SteadyTo}
use Rattle.quote.proofs.steady.Tests.+steadiness.Given as goal

abbrev pub decreases-line_steady : goal.decreases-line_steady
decreases-line_steady l = 2 * l.k

abbrev pub decreases-routine_steady : goal.decreases-routine_steady
decreases-routine_steady l = 2 * l.k + 1

abbrev pub invariant-routine_steady-loop-j : goal.invariant-routine_steady-loop-j
invariant-routine_steady-loop-j l = SteadyTo l.self.book.now.bytes.now l.k l.j
