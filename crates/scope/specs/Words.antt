-- The few words that the definitions are written in: tests on numbers, "or", "and", "if", and a list by the rule of its members.
-- Every symbol of the library keeps the library's meaning. Assumes nothing.
use Rattle.std.specs.Prelude.{ℕ, zero, suc, Bool, true, false, not, List, [], ◌∷◌, eqb, leb, ltb}

infix 45 ◌is◌ ◌is_not◌ ◌above◌ ◌below◌ ◌not_below◌
infixr 35 ◌and◌
infixr 30 ◌or◌
-- tests on numbers
abbrev pub ◌is◌ : ℕ → ℕ → Bool
m is n = eqb m n

abbrev pub ◌is_not◌ : ℕ → ℕ → Bool
m is_not n = not (eqb m n)

abbrev pub ◌above◌ : ℕ → ℕ → Bool
m above n = ltb n m

abbrev pub ◌below◌ : ℕ → ℕ → Bool
m below n = ltb m n

abbrev pub ◌not_below◌ : ℕ → ℕ → Bool
m not_below n = leb n m

-- a where the test is true, else b
unfoldable pub if : {A : Type 0} → Bool → A → A → A
if true a b = a
if false a b = b

abbrev pub ◌or◌ : Bool → Bool → Bool
s or t = if s true t

abbrev pub ◌and◌ : Bool → Bool → Bool
s and t = if s t false

-- f i, f (i + 1) and so on, n of them
unfoldable pub listed : {A : Type 0} → (ℕ → A) → ℕ → ℕ → List A
listed f i zero = []
listed f i (suc n) = f i ∷ listed f (suc i) n
