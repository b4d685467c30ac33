-- A quote as a number of 64 bits with a mark "over" beside it: words of the laws in `proofs/Keeping`.
-- No contract cites them: the code keeps a quote as a number or none (`Sums`). Assumes nothing.
use Rattle.std.specs.Prelude.{ℕ, ◌+◌, ◌*◌, ◌≤◌, Bool, ◌≡◌}
use Rattle.scope.specs.Words.{◌above◌}
use Rattle.scope.specs.Steps.{top}
use Rattle.scope.specs.Quote.{most_quote}

-- The number counts only where it is not over.
pub record Sum : Type 0 where
  pub number : ℕ
  pub over : Bool

-- Over exactly if the quote is above 2^64-1; not over, the number is the quote.
pub record Keeps (q number : ℕ) (over : Bool) : Type 0 where
  pub over_exactly : over ≡ (q above most_quote)
  pub else_the_number : q ≤ most_quote → number ≡ q

-- r keeps the sum of what a and b keep
pub record Added (a b r : Sum) : Type 0 where
  pub keeps : (p q : ℕ) → Keeps p a.number a.over → Keeps q b.number b.over → Keeps (p + q) r.number r.over

-- r keeps the quote of a REPEAT of what a keeps
pub record Repeated (a r : Sum) : Type 0 where
  pub keeps : (q : ℕ) → Keeps q a.number a.over → Keeps (top * (q + 2) + 1) r.number r.over
