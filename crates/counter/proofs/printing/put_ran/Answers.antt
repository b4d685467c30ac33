-- `printing::put_ran` prints what a run answers, and the registers that it left.
-- A refusal as a refusal; else the outcome, and the registers behind it. Assumes nothing.
use Rattle.counter.proofs.Texts.{room_for_the_first}
use Rattle.counter.proofs.Lines.{answer_is_its_lines}
use Rattle.counter.proofs.printing.put_ran.Goals as goal

pub put_outcome-requires : goal.put_outcome-requires
put_outcome-requires c = room_for_the_first _ _ _ (answer_is_its_lines _ _ c.in-Ok.is) c.requires
