-- The bits of a mask: of one register's mask its own alone is set, of two masks joined those of either, of 0 none.
-- A bit is a digit, and the library says what joining and shifting do to digits. Assumes nothing.
use Prim.Native.Nat.{ℕ, zero, suc, ◌+◌, ◌*◌, ◌-◌, ◌/◌, ◌%◌, ◌^◌, ◌<◌, ◌≤◌, max}
use native.Mathlib.Omega.{arith}
use native.Mathlib.Nat.{div-eq_of_lt, div_self, mul-div_cancel, mul-mod_left, mod-lt, one-mul, pow-suc, zero-lt-suc}
use mathlib.Core.Bool.{Bool, false}
use mathlib.Core.Path.{◌≡◌, refl, sym, ◌∙◌, ap}
use mathlib.Core.Logic.{⊎_elim}
use lib.Pow.{pow_pos, pow-lt, pow-add, shl_exact}
use lib.Bits.{bit_or, or_shr, or_step}
use Rattle.scope.specs.Words.{if, ◌is◌, ◌or◌}
use Rattle.scope.specs.Steps.{register_count}
use Rattle.scope.proofs.Verdicts.{one_holds, below_tells, is_tells}
use Rattle.quote.specs.Naming.{bit, Marks}

-- ---- a bit

either_digit : (p q a b : ℕ) → a < 2 → b < 2 → p ≡ q * 2 + max a b → (p % 2 is 1) ≡ (a is 1 or b is 1)
unfolding if
either_digit p q zero zero h s e = let z : p % 2 ≡ 0 = omega arith in rw z refl
either_digit p q zero (suc zero) h s e = let z : p % 2 ≡ 1 = omega arith in rw z refl
either_digit p q zero (suc (suc b)) h s e = absurd (omega arith)
either_digit p q (suc zero) b h s e = let z : p % 2 ≡ 1 = omega arith in rw z refl
either_digit p q (suc (suc a)) b h s e = absurd (omega arith)

bit_of_either : (j m n : ℕ) → bit j (bit_or m n) ≡ (bit j m or bit j n)
unfolding bit
bit_of_either j m n =
    let x = m / 2 ^ j in
    let y = n / 2 ^ j in
    ap (λ z. z % 2 is 1) (or_shr m n j)
    ∙ either_digit (bit_or x y) (bit_or (x / 2) (y / 2)) (x % 2) (y % 2) (mod-lt x (zero-lt-suc 1)) (mod-lt y (zero-lt-suc 1)) (or_step x y)

bit_of_a_power : (r j : ℕ) → bit j (2 ^ r) ≡ (r is j)
unfolding bit
bit_of_a_power r j =
    ⊎_elim (λ (low : r < j).
    ap (λ z. z % 2 is 1) (div-eq_of_lt (pow-lt low)) ∙ sym ((is_tells r j).when_false.1 (λ same. absurd (omega (arith, low, same))))) (λ (not_low : j ≤ r).
    ⊎_elim (λ (high : j < r).
    let d = r - j - 1 in
    let parts : r ≡ suc d + j = omega (arith, high) in
    let above : 2 ^ r / 2 ^ j ≡ 2 ^ d * 2 =
    ap (λ x. 2 ^ x / 2 ^ j) parts ∙ ap (λ x. x / 2 ^ j) (pow-add 2 (suc d) j) ∙ mul-div_cancel (2 ^ suc d) (pow_pos j) ∙ pow-suc 2 d in
    ap (λ z. z % 2 is 1) above ∙ ap (λ z. z is 1) (mul-mod_left (2 ^ d) 2) ∙ sym ((is_tells r j).when_false.1 (λ same. absurd (omega (arith, high, same))))) (λ (not_high : r ≤ j).
    let same : r ≡ j = omega (arith, not_low, not_high) in
    ap (λ x. 2 ^ x / 2 ^ j % 2 is 1) same ∙ ap (λ z. z % 2 is 1) (div_self (pow_pos j)) ∙ sym ((is_tells r j).when_true.1 same)) (one_holds (below_tells j r))) (one_holds (below_tells r j))

-- ---- a mask

pub no_register_marked : Marks (λ j. false) 0
unfolding bit
no_register_marked = record { each = λ j. ap (λ z. z % 2 is 1) (div-eq_of_lt (pow_pos j)) }

pub one_register_marked : (r : ℕ) → r < register_count → Marks (λ j. r is j) (1 * 2 ^ r % 4294967296)
one_register_marked r h =
    let power : 1 * 2 ^ r % 4294967296 ≡ 2 ^ r = shl_exact {a = 1} 1 r 32 (omega arith) (omega (arith, h)) ∙ one-mul (2 ^ r) in
    record { each = λ j. ap (bit j) power ∙ bit_of_a_power r j }

pub either_marked : {f g : ℕ → Bool} {m n : ℕ} → Marks f m → Marks g n → Marks (λ j. f j or g j) (bit_or m n)
either_marked {f} {g} {m} {n} p q = record { each = λ j. bit_of_either j m n ∙ (λ i. p.each j i or q.each j i) }

pub as_marked : {f g : ℕ → Bool} {m : ℕ} → Marks f m → ((j : ℕ) → f j ≡ g j) → Marks g m
as_marked p same = record { each = λ j. p.each j ∙ same j }
