-- `Looks::look` tells the length, the mask and the quote of a routine.
-- The first j lines are looked at (`Looking`). Assumes nothing.
use Rattle.quote.proofs.Looks.{nothing_looked_at, one_more_line, routine_looked_at}
use Rattle.quote.proofs.looking.Looks.look.Goals as goal

pub loop-j-init : goal.loop-j-init
loop-j-init c = search nothing_looked_at

pub loop-j-preserved : goal.loop-j-preserved
loop-j-preserved c = search one_more_line

pub returns : goal.returns
returns c = search routine_looked_at
