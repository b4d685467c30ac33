-- `copying::moved` is where a line of a copy stands in the flat program.
-- The start in the table is below its cap, so it is the start itself. Assumes nothing.
use Rattle.flatten.proofs.Finding.{moved_is}
use Rattle.flatten.proofs.copying.moved.Goals as goal

pub returns : goal.returns
returns c = search moved_is
