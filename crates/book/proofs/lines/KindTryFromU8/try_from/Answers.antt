-- A number is that of a kind, or KIND is what is wrong.
-- By the numbers of the kinds. Assumes nothing.
use mathlib.Core.Path.{refl}
use Rattle.scope.specs.Words.{if}
use Rattle.scope.specs.Book.{kind_wrong}
use Rattle.book.proofs.Rules.{tests}
use Rattle.book.specs.Told.{IsKind, kind_told}
use Rattle.book.proofs.lines.KindTryFromU8.try_from.Goals as goal

pub returns-in-1 : goal.returns-in-1
unfolding IsKind kind_told kind_wrong if
returns-in-1 c = rw c.in-1.is (refl, refl)

pub returns-in-2 : goal.returns-in-2
unfolding IsKind kind_told kind_wrong if
returns-in-2 c = rw c.in-2.is (refl, refl)

pub returns-in-3 : goal.returns-in-3
unfolding IsKind kind_told kind_wrong if
returns-in-3 c = rw c.in-3.is (refl, refl)

pub returns-in-4 : goal.returns-in-4
unfolding IsKind kind_told kind_wrong if
returns-in-4 c = rw c.in-4.is (refl, refl)

pub returns-in-5 : goal.returns-in-5
unfolding IsKind kind_told kind_wrong if
returns-in-5 c = rw c.in-5.is (refl, refl)

pub returns-in_default : goal.returns-in_default
unfolding IsKind kind_told kind_wrong if
returns-in_default c = (refl, search tests)
