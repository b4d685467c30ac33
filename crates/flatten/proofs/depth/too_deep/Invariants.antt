-- `depth::too_deep` tells whether more than 32 routines are open inside one another from a routine on.
-- The depths of the routines below k are in the row. Assumes nothing.
use Rattle.scope.specs.Book.{book_of}
use Rattle.scope.specs.Flattening.{depth}
use Rattle.flatten.specs.Rows.{Row}
use Rattle.flatten.specs.Depths.{depth_cap}
use Rattle.flatten.proofs.depth.too_deep.Given as goal

abbrev pub invariant-loop-k : goal.invariant-loop-k
invariant-loop-k l = Row (depth (book_of l.b.bytes.now)) depth_cap l.k l.depths
