-- `naming::only` marks one register.
-- A number shifted left is that power of 2. Assumes nothing.
use Rattle.quote.proofs.Bits.{one_register_marked}
use Rattle.quote.proofs.naming.only.Goals as goal

pub returns : goal.returns
returns c = search one_register_marked
