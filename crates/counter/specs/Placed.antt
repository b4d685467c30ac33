-- A text printed over an output from a place on: words of the laws in `proofs/Placed`.
-- No contract cites them: what the code prints is appended (`Printed`). Assumes nothing.
use Rattle.std.specs.Prelude.{ℕ, ◌+◌, ◌≤◌, List, length}
use Rattle.book.specs.Written.{with_bytes}

-- there is room for it
pub record Room (at : ℕ) (text out : List ℕ) : Type 0 where
  pub enough : at + length text ≤ length out

-- where the next one goes, and what is left
pub record Printed : Type 0 where
  pub next : ℕ
  pub left : List ℕ

unfoldable pub printed : (at : ℕ) (text out : List ℕ) → Printed
printed at text out = record { next = at + length text; left = with_bytes out at text }
