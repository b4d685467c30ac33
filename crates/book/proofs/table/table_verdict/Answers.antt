-- `table::table_verdict` is the table's verdict.
-- The loop keeps that all entries below r pass and where routine r has to start (`Due`). Assumes nothing.
use Rattle.book.specs.Told.{name_told, verdict_told}
use Rattle.book.proofs.Scanned.{due_at_first, due_next, entry_refused, end_refused, table_right}
use Rattle.book.proofs.table.table_verdict.Goals as goal

pub loop-r-init : goal.loop-r-init
loop-r-init c = search due_at_first

pub returns-then-first-due : goal.returns-then-first-due
unfolding name_told verdict_told
returns-then-first-due c = search entry_refused

pub loop-r-preserved : goal.loop-r-preserved
loop-r-preserved c = search due_next

pub returns-then-due-lines : goal.returns-then-due-lines
unfolding name_told verdict_told
returns-then-due-lines c = search end_refused

pub returns : goal.returns
unfolding verdict_told
returns c = search table_right
