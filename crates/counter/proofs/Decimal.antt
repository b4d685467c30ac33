-- The digits that std prints of a number are its decimal digits with no zeros in front, and so are the fewest digits that hold it, as the kit
-- writes them; a number below 10^k has at most k.
-- By the number of digits: the last one is the rest by 10 in both. Assumes nothing.
use mir.Syntax.{w64}
use mir.Val.{Fits}
use Prim.Native.Nat.{ℕ, zero, suc, ◌+◌, ◌-◌, ◌/◌, ◌%◌, ◌^◌, ◌<◌, ◌≤◌}
use native.Mathlib.Omega.{arith}
use native.Mathlib.Nat.{pow-suc, one-le-pow}
use mathlib.Core.Path.{◌≡◌, refl, sym, ◌∙◌}
use mathlib.Core.Bool.{false}
use mathlib.Core.List.{List, [], ◌∷◌, ◌++◌, append_assoc}
use lib.ListN.{length, length-append}
use borrow.Author.Tests.{lt-ltb, ne_eqb}
use Rattle.std.specs.Fmt as std
use Rattle.std.specs.Fmt.{digits_onto, digit_glyph}
use Rattle.io.specs.Digits.{hex_digit_ascii, last_digits, IsDigitCount}
use Rattle.scope.specs.Shop.{last_digit, decimal_digits, decimal}

below_one_less : (k n : ℕ) → n < 10 ^ suc k → n / 10 < 10 ^ k
below_one_less k n h = omega (arith, h, pow-suc 10 k)

-- ---- which digits

digit : (n : ℕ) → digit_glyph false (n % 10) ≡ last_digit n
unfolding last_digit
digit n = rw (lt-ltb (n % 10) 10 (omega arith)) refl

-- m is what the last digit leaves
same_digits : (k bound n m : ℕ) (behind : List ℕ) → n < 10 ^ suc k → m ≡ n / 10 → m ≤ bound
    → digits_onto (suc k) 10 false n behind ≡ decimal_digits bound m ++ (last_digit n ∷ behind)
unfolding decimal_digits
same_digits k zero n zero behind h e l = rw (digit n, sym e) refl
same_digits k (suc bound) n zero behind h e l = rw (digit n, sym e) refl
same_digits k zero n (suc m) behind h e l = absurd (omega arith)
same_digits zero (suc bound) n (suc m) behind h e l = absurd (omega (arith, h, e))
same_digits (suc k) (suc bound) n (suc m) behind h e l =
    rw (digit n, sym e, ne_eqb (suc m) 0 (λ z. omega (arith, z)))
    (same_digits k bound (suc m) (suc m / 10) (last_digit n ∷ behind) (rw (sym e) at (below_one_less (suc k) n h)) refl (omega arith)
    ∙ sym (append_assoc (decimal_digits bound (suc m / 10)) (last_digit (suc m) ∷ []) (last_digit n ∷ behind)))

pub printed_decimal : (n : ℕ) → Fits w64 n → std.decimal n ≡ decimal n
unfolding decimal std.digits
printed_decimal n f = same_digits 63 n n (n / 10) [] (omega (arith, f.fits)) refl (omega arith)

-- ---- the fewest digits

digit_below_10 : (d : ℕ) → d < 10 → hex_digit_ascii d ≡ 48 + d
digit_below_10 d h = rw (lt-ltb d 10 h) refl

-- n has no fewer than k digits
NoFewer : (k n : ℕ) → Type 0
NoFewer zero n = Unit {0}
NoFewer (suc k) n = 10 ^ k ≤ n

one_less : (k n : ℕ) → 10 ^ k ≤ n → NoFewer k (n / 10)
unfolding NoFewer
one_less zero n h = tt
one_less (suc k) n h = omega (arith, h, pow-suc 10 k)

fewest_digits : (k n bound : ℕ) → n ≤ bound → n < 10 ^ k → NoFewer k n → last_digits 10 k n ≡ decimal_digits bound n
unfolding decimal_digits last_digit NoFewer
fewest_digits zero zero zero e h l = refl
fewest_digits zero zero (suc bound) e h l = refl
fewest_digits zero (suc n) bound e h l = absurd (omega arith)
fewest_digits (suc k) zero bound e h l = absurd (omega (arith, one-le-pow k 10 (omega arith), l))
fewest_digits (suc k) (suc n) zero e h l = absurd (omega arith)
fewest_digits (suc k) (suc n) (suc bound) e h l =
    rw (digit_below_10 (suc n % 10) (omega arith), fewest_digits k (suc n / 10) bound (omega arith) (below_one_less k (suc n) h) (one_less k (suc n) l))

pub digits_are_decimal : (n k : ℕ) → IsDigitCount 10 1 n k → last_digits 10 k n ≡ decimal n
unfolding decimal last_digit NoFewer
digits_are_decimal n zero f = absurd (omega (arith, f.0))
digits_are_decimal n (suc k) f =
    rw (digit_below_10 (n % 10) (omega arith), fewest_digits k (n / 10) n (omega arith) (below_one_less k n f.1) (no_fewer k λ h. rw less at (f.2 h)))
  where
    less : suc k - 1 ≡ k
    less = omega arith

    no_fewer : (k : ℕ) → (1 < suc k → 10 ^ k ≤ n) → NoFewer k (n / 10)
    no_fewer zero l = tt
    no_fewer (suc k) l = one_less (suc k) n (l (omega arith))

-- ---- how many digits

digits_within : (k bound n : ℕ) → n < 10 ^ k → length (decimal_digits bound n) ≤ k
unfolding decimal_digits
digits_within k zero n h = omega arith
digits_within k (suc bound) zero h = omega arith
digits_within zero (suc bound) (suc n) h = absurd (omega arith)
digits_within (suc k) (suc bound) (suc n) h =
    omega (arith, length-append (decimal_digits bound (suc n / 10)) (last_digit (suc n) ∷ []), digits_within k bound (suc n / 10) (below_one_less k (suc n) h))

pub decimal_within : (k n : ℕ) → n < 10 ^ suc k → length (decimal n) ≤ suc k
unfolding decimal
decimal_within k n h = omega (arith, length-append (decimal_digits n (n / 10)) (last_digit n ∷ []), digits_within k n (n / 10) (below_one_less k n h))
