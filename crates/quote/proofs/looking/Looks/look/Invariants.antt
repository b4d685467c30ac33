-- `Looks::look` tells the length, the mask and the quote of a routine.
-- The first j lines are looked at (`Looking`). Assumes nothing.
use Rattle.quote.proofs.Looks.{Looking}
use Rattle.quote.proofs.looking.Looks.look.Given as goal

abbrev pub invariant-loop-j : goal.invariant-loop-j
invariant-loop-j l = Looking l.b.bytes.now l.k l.j l.length l.mask l.quote
