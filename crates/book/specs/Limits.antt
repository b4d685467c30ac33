-- A row of limits, by which a line that passes 7 to 10 is told at a glance. That it passes then is proved, in proofs/Limits.
-- Assumes nothing.
use Rattle.std.specs.Prelude.{ℕ, ◌+◌, Bool, List, [], ◌∷◌, get_or}
use Rattle.scope.specs.Words.{◌below◌, ◌and◌}
use Rattle.scope.specs.Book.{last_register}
use Rattle.book.specs.declared.judging.Limit.{Limit}

-- A row has room for kinds 0 to 7.
abbrev pub kinds : ℕ
kinds = 8

-- what a register has to be below, and an operand
abbrev pub limit : (register operand : ℕ) → Limit
limit g o = record { register = g; operand = o }

-- nothing is below 0
abbrev pub none : Limit
none = limit 0 0

-- for a line of routine r, which has n lines, by its kind
unfoldable pub limits : (r n : ℕ) → List Limit
limits r n =
    let register = last_register + 1 in
    let target = n + 1 in
    none ∷ limit register 1 ∷ limit register target ∷ limit 1 target ∷ limit 1 r ∷ limit register r ∷ none ∷ none ∷ []

unfoldable pub within : (row : List Limit) (kind register operand : ℕ) → Bool
within row k g o = k below kinds and g below (get_or row k none).register and o below (get_or row k none).operand
