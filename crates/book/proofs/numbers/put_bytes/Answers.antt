-- `numbers::put_bytes` leaves the bytes at a place, and the rest as it was.
-- They are copied over that part. Assumes nothing.
use Rattle.book.proofs.Written.{bytes_put}
use Rattle.book.proofs.numbers.put_bytes.Goals as goal

pub returns : goal.returns
returns g c = search bytes_put
