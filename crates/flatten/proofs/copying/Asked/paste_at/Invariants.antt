-- `Asked::paste_at` is what stands at a flat line, and the place behind it.
-- At every turn the flat line lies in a line of a copy that stands in the program (`LiesIn`); the routine falls. Assumes nothing.
use Rattle.scope.specs.Book.{book_of}
use Rattle.scope.specs.Flattening.{flat_program}
use Rattle.flatten.specs.Copies.{LiesIn}
use Rattle.flatten.proofs.copying.Asked.paste_at.Given as goal

abbrev pub invariant-loop-x : goal.invariant-loop-x
invariant-loop-x l = LiesIn (flat_program (book_of l.self.starts.book.bytes.now) l.self.routine) l.self.starts.book.bytes.now l.at l.p.0

abbrev pub decreases-loop-x : goal.decreases-loop-x
decreases-loop-x l = l.at.routine
