-- `Looks::quote` answers what the two rows have of a routine's quote.
-- None where the mark is set, else the number. Assumes nothing.
use Rattle.std.proofs.Common.{arith}
use Rattle.quote.specs.Sums.{in_the_rows}
use Rattle.quote.proofs.looking.Looks.quote.Goals as goal

pub returns-then-self-c : goal.returns-then-self-c
unfolding in_the_rows
returns-then-self-c c = grind arith

pub returns : goal.returns
unfolding in_the_rows
returns c = grind arith
