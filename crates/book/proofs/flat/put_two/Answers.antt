-- `flat::put_two` leaves two numbers at a place, low byte first.
-- Their bytes are the four that are put. Assumes nothing.
use Rattle.scope.specs.Book.{two_bytes, two_bytes_each}
use Rattle.book.proofs.flat.put_two.Goals as goal

pub returns : goal.returns
unfolding two_bytes_each two_bytes
returns c = cc
