-- `steady::is_steady` tells whether a routine is steady.
-- The answers for the routines below k are in the row. Assumes nothing.
use Rattle.quote.specs.Steadiness.{Tested}
use Rattle.quote.proofs.steady.is_steady.Given as goal

abbrev pub invariant-loop-k : goal.invariant-loop-k
invariant-loop-k l = Tested l.b.bytes.now l.k l.tested
