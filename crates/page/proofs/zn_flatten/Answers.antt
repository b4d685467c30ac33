-- `zn_flatten` answers C as the page's flattening does, and leaves the output so.
-- It is flattening, its answer field by field. Assumes nothing.
use Rattle.page.proofs.Calls.{flattens_for_C}
use Rattle.page.proofs.zn_flatten.Goals as goal

pub returns : goal.returns
returns c = search flattens_for_C
