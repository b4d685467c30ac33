-- `judging::line_verdict` is a line's row of tests.
-- A line within the limits passes them all, and any other is tested. Assumes nothing.
use Rattle.book.proofs.Limits.{within_passes}
use Rattle.book.specs.Told.{verdict_told}
use Rattle.book.proofs.judging.line_verdict.Goals as goal

pub returns-then-within : goal.returns-then-within
unfolding verdict_told
returns-then-within c = search within_passes
