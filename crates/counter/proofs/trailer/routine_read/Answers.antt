-- `trailer::routine_read` is the routine that the trailer asks for.
-- It stands at its front. Assumes nothing.
use Rattle.counter.proofs.LastBytes.{routine_of_the_trailer}
use Rattle.counter.proofs.trailer.routine_read.Goals as goal

pub returns : goal.returns
returns c = search routine_of_the_trailer
