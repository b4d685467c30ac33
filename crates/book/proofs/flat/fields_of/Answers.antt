-- `flat::fields_of` has the fields of an instruction, as the table of kinds says.
-- By the instruction's cases. Assumes nothing.
use Rattle.book.proofs.Written.{DEC_target_fits, GO_TO_target_fits}
use Rattle.scope.specs.Book.{fields_of}
use Rattle.scope.specs.Flattening.{as_line}
use Rattle.book.specs.Told.{instruction_told, fields_told}
use Rattle.book.proofs.flat.fields_of.Goals as goal

pub overflow_cast-result : goal.overflow_cast-result
overflow_cast-result c = search DEC_target_fits

pub overflow_cast-result-in-GoTo : goal.overflow_cast-result-in-GoTo
overflow_cast-result-in-GoTo c = search GO_TO_target_fits

pub returns-in-Inc : goal.returns-in-Inc
unfolding fields_told instruction_told as_line fields_of
returns-in-Inc c = cc

pub returns-in-Dec : goal.returns-in-Dec
unfolding fields_told instruction_told as_line fields_of
returns-in-Dec c = cc

pub returns-in-GoTo : goal.returns-in-GoTo
unfolding fields_told instruction_told as_line fields_of
returns-in-GoTo c = cc
