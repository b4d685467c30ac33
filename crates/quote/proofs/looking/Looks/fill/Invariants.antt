-- `Looks::fill` looks at every routine.
-- The routines below k are looked at. Assumes nothing.
use Rattle.quote.specs.Looked.{LookedBelow}
use Rattle.quote.proofs.looking.Looks.fill.Given as goal

abbrev pub invariant-loop-k : goal.invariant-loop-k
invariant-loop-k l = LookedBelow l.b.bytes.now l.k l.self
