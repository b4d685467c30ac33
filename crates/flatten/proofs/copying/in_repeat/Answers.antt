-- `copying::in_repeat` finds what a REPEAT leaves at a flat line: its GO TO, its DEC, or its copy.
-- By whether it is the last of its flat lines, the first, or one between. Assumes nothing.
use mathlib.Core.Path.{sym}
use Rattle.std.proofs.lemmas.Bool.{eqb-true, eqb-false}
use Rattle.flatten.proofs.Pasting.{next_line_number_fits, line_below_most, REPEAT_looks, REPEAT_goes_back, REPEAT_deeper}
use Rattle.flatten.proofs.copying.in_repeat.Goals as goal

pub overflow_add-at : goal.overflow_add-at
overflow_add-at c = search next_line_number_fits

pub behind-requires : goal.behind-requires
behind-requires c = search line_below_most

pub returns-then-eq : goal.returns-then-eq
returns-then-eq c = search (REPEAT_goes_back, eqb-true _ _ (sym c.if-eq.ensures))

pub returns-then-eq-2 : goal.returns-then-eq-2
returns-then-eq-2 c = search (REPEAT_looks, eqb-true _ _ (sym c.if-eq-2.ensures))

pub returns : goal.returns
returns c = search (REPEAT_deeper, eqb-false _ _ (sym c.if-eq.ensures), eqb-false _ _ (sym c.if-eq-2.ensures))
