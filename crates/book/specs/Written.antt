-- What is left in a slice of which a part was written, and a flat book of which the first lines are written.
-- Assumes nothing.
use Rattle.std.specs.Prelude.{ℕ, ◌+◌, List, ◌++◌, length, take, drop}
use Rattle.scope.specs.Ram.{Program}
use Rattle.scope.specs.Flattening.{bytes_of_program, flat_book_bytes}

-- these bytes from a place on, and before and behind them what was there
unfoldable pub with_bytes : (out : List ℕ) (at : ℕ) (bytes : List ℕ) → List ℕ
with_bytes out at bytes = take at out ++ bytes ++ drop (at + length bytes) out

-- the first p lines of a program behind the header, and the rest as it was
unfoldable pub with_lines : (out : List ℕ) (p : ℕ) → Program → List ℕ
with_lines out p xs = with_bytes out (flat_book_bytes 0) (bytes_of_program (take p xs))
