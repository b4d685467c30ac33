-- Document 01, "Numbers of refusal", row 11: "11 DEPTH: more than 32 routines open inside one another".
-- Here routines that are open inside one another are a chain, each using the next; `depth` in `Flattening` is a number. Assumes nothing.
use Rattle.std.specs.Prelude.{ℕ, suc, ◌<◌}
use Rattle.scope.specs.Book.{Book, Uses}
use Rattle.scope.specs.Flattening.{most_open}

-- From routine a on, n routines are open inside one another, the innermost of them c.
pub data Opened (book : Book) : (a n c : ℕ) → Type 0 where
  alone : {a : ℕ} → Opened book a 1 a
  around : {a b n c : ℕ} → Uses book a b → Opened book b n c → Opened book a (suc n) c

-- | 11 | DEPTH | more than 32 routines open inside one another |
pub record OpensTooMany (book : Book) (k : ℕ) : Type 0 where
  pub how_many : ℕ
  pub innermost : ℕ
  pub opened : Opened book k how_many innermost
  pub too_many : most_open < how_many
