-- `header::header_verdict` is the header's verdict.
-- Under twelve bytes it is SHORT; else the numbers that were read are the header's, and they are tested. Assumes nothing.
use Rattle.book.proofs.Rules.{refusing}
use Rattle.scope.specs.Book.{header_verdict, header_test}
use Rattle.book.specs.Told.{name_told, verdict_told}
use Rattle.book.proofs.header.header_verdict.Goals as goal

pub returns-then-size-lt-HEADER_BYTES : goal.returns-then-size-lt-HEADER_BYTES
unfolding header_verdict header_test name_told verdict_told
returns-then-size-lt-HEADER_BYTES c = search refusing

pub returns : goal.returns
unfolding header_verdict
returns c = cc
