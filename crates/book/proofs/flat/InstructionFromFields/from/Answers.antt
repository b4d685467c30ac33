-- The instruction that is made of fields is the one that they say.
-- Each kind of the code is the table's next one. Assumes nothing.
use Rattle.scope.specs.Running.{instruction_of}
use Rattle.book.proofs.Rules.{tests}
use Rattle.book.specs.Told.{instruction_told, fields_told}
use Rattle.book.proofs.flat.InstructionFromFields.from.Goals as goal

pub returns-in-1 : goal.returns-in-1
unfolding instruction_told instruction_of fields_told
returns-in-1 c = search tests

pub returns-in-2 : goal.returns-in-2
unfolding instruction_told instruction_of fields_told
returns-in-2 c = search tests

pub returns-in_default : goal.returns-in_default
unfolding instruction_told instruction_of fields_told
returns-in_default c = search tests
