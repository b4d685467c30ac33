-- `Looks::fill` looks at every routine.
-- The routines below k are looked at; what is told of routine k goes into each row. Assumes nothing.
use Rattle.std.proofs.Common.{◌<◌, arith}
use Rattle.scope.specs.Book.{most_routines}
use Rattle.flatten.proofs.Rows.{one_more_routine}
use Rattle.quote.proofs.Looks.{one_more_number, one_more_mark}
use Rattle.quote.proofs.looking.Looks.fill.Goals as goal

pub loop-k-preserved : goal.loop-k-preserved
loop-k-preserved c =
    let low : c.loop-k.k < most_routines = omega arith in
    record {
      lengths_are = search one_more_routine;
      masks_are = search one_more_routine;
      numbers_are = search one_more_number;
      overs_are = search one_more_mark;
    }
