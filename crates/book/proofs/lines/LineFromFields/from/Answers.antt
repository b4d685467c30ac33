-- The line that is made of fields is the one that they say.
-- Each kind of the code is the table's next one. Assumes nothing.
use Rattle.scope.specs.Book.{line_of}
use Rattle.book.proofs.Rules.{tests}
use Rattle.book.specs.Told.{line_told, fields_told}
use Rattle.book.proofs.lines.LineFromFields.from.Goals as goal

pub returns-in-1 : goal.returns-in-1
unfolding line_told line_of fields_told
returns-in-1 c = search tests

pub returns-in-2 : goal.returns-in-2
unfolding line_told line_of fields_told
returns-in-2 c = search tests

pub returns-in-3 : goal.returns-in-3
unfolding line_told line_of fields_told
returns-in-3 c = search tests

pub returns-in-4 : goal.returns-in-4
unfolding line_told line_of fields_told
returns-in-4 c = search tests

pub returns-in_default : goal.returns-in_default
unfolding line_told line_of fields_told
returns-in_default c = search tests
