-- `printing::put_refusal` prints REFUSED, number, place.
-- It is a word and two numbers. Assumes nothing.
use Rattle.scope.specs.Shop.{ascii}
use borrow.Author.Rules.{rules}
use Rattle.counter.proofs.Texts.{printed_there}
use Rattle.counter.proofs.Lines.{refusal_line}
use Rattle.counter.proofs.printing.put_refusal.Goals as goal

pub returns : goal.returns
unfolding ascii
returns c = search (rules, printed_there, refusal_line)
