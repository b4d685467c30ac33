-- `printing::put_outcome` prints the outcome under its name, with steps and line; FULL with its register.
-- Each is a word and two numbers, FULL one number more. Assumes nothing.
use borrow.Author.Rules.{rules}
use Rattle.scope.specs.Shop.{ascii}
use Rattle.counter.proofs.Texts.{texts, room_for_the_first, room_for_the_second}
use Rattle.counter.proofs.Lines.{OUT_OF_STEPS_line, FULL_line}
use Rattle.counter.proofs.printing.put_outcome.Goals as goal

pub put_word_and_two-requires-in-OutOfSteps : goal.put_word_and_two-requires-in-OutOfSteps
unfolding ascii
put_word_and_two-requires-in-OutOfSteps c = rw (OUT_OF_STEPS_line _ _ _ c.in-OutOfSteps.is) at c.requires

pub put_word_and_two-requires-in-Full : goal.put_word_and_two-requires-in-Full
unfolding ascii
put_word_and_two-requires-in-Full c = room_for_the_first _ _ _ (FULL_line _ _ _ c.in-Full.is) c.requires

pub put_number-requires : goal.put_number-requires
unfolding ascii
put_number-requires c = rw c.from.ensures (room_for_the_second _ _ _ (FULL_line _ _ _ c.in-Full.is) c.requires c.put_word_and_two-in-Full.ensures)

pub returns-in-OutOfSteps : goal.returns-in-OutOfSteps
unfolding ascii
returns-in-OutOfSteps c = rw (OUT_OF_STEPS_line _ _ _ c.in-OutOfSteps.is) c.put_word_and_two-in-OutOfSteps.ensures

pub returns-in-Full : goal.returns-in-Full
unfolding ascii
returns-in-Full c = search (rules, texts, FULL_line)
