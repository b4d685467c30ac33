-- `numbers::two_byte` is the number whose low byte stands at i.
-- The byte at i and the next one are joined. Assumes nothing.
use native.Mathlib.Omega.{arith}
use Rattle.scope.specs.Book.{two_byte, byte}
use Rattle.book.proofs.numbers.two_byte.Goals as goal

pub returns : goal.returns
unfolding two_byte byte
returns c = omega (arith, c.from_le_bytes.ensures)
