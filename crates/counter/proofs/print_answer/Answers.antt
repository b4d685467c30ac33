-- `print_answer` prints what the program prints of every input.
-- Refused by its size at once; else flattened and run. Assumes nothing.
use Rattle.book.specs.Told.{name_told}
use borrow.Author.Rules.{rules}
use Rattle.counter.proofs.Served.{shop_prints_LENGTH}
use Rattle.counter.proofs.print_answer.Goals as goal

pub returns-then-input-gt-MOST_INPUT : goal.returns-then-input-gt-MOST_INPUT
unfolding name_told
returns-then-input-gt-MOST_INPUT c = search (rules, shop_prints_LENGTH)
