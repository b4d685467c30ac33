-- `table::table_verdict` is the table's verdict.
-- The loop keeps that all entries below r pass and where routine r has to start (`Due`). Assumes nothing.
use Rattle.book.proofs.Scanned.{Due}
use Rattle.book.proofs.table.table_verdict.Given as goal

abbrev pub invariant-loop-r : goal.invariant-loop-r
invariant-loop-r l = Due l.b l.routines l.due l.r
