-- What a step leaves in the registers: the value that it wrote where it wrote it, every other as it was, none above both.
-- By the list of registers, or read off the library's laws of `set`. Assumes nothing.
use Prim.Native.Nat.{ℕ, zero, suc, ◌≤◌, ◌<◌}
use native.Mathlib.Omega.{arith}
use mathlib.Core.Bool.{false}
use mathlib.Core.Path.{◌≡◌, refl, sym}
use mathlib.Core.List.{[], ◌∷◌}
use lib.ListN.{length, get_or}
use lib.Seq.{get_or-set_other}
use borrow.Author.Tests.{eqb-false}
use Rattle.scope.specs.Words.{◌is◌}
use Rattle.scope.specs.Steps.{register_count, top, Registers, value, with_value, ValuesWithin}

pub taken_off : (rs : Registers) (r v : ℕ) → value rs r ≡ suc v → value (with_value rs r v) r ≡ v
unfolding value with_value
taken_off [] r v e = absurd (omega arith)
taken_off (x ∷ rs) zero v e = refl
taken_off (x ∷ rs) (suc r) v e = taken_off rs r v e

none_is_above : (rs : Registers) (r v j n : ℕ) → v ≤ n → value rs j ≤ n → value (with_value rs r v) j ≤ n
unfolding value with_value
none_is_above [] r v j n a b = b
none_is_above (x ∷ rs) zero v zero n a b = a
none_is_above (x ∷ rs) zero v (suc j) n a b = b
none_is_above (x ∷ rs) (suc r) v zero n a b = b
none_is_above (x ∷ rs) (suc r) v (suc j) n a b = none_is_above rs r v j n a b

pub written_within : (rs : Registers) (r v : ℕ) → v ≤ top → ValuesWithin rs → ValuesWithin (with_value rs r v)
unfolding ValuesWithin
written_within rs r v h within j = none_is_above rs r v j top h (within j)

pub none_rises : (rs : Registers) (r v j : ℕ) → v ≤ value rs r → value (with_value rs r v) j ≤ value rs j
unfolding value with_value
none_rises [] r v j a = omega arith
none_rises (x ∷ rs) zero v zero a = a
none_rises (x ∷ rs) zero v (suc j) a = omega arith
none_rises (x ∷ rs) (suc r) v zero a = omega arith
none_rises (x ∷ rs) (suc r) v (suc j) a = none_rises rs r v j a

pub others_stay : (rs : Registers) (r v j : ℕ) → (r is j) ≡ false → value (with_value rs r v) j ≡ value rs j
unfolding value with_value
others_stay rs r v j e = get_or-set_other rs r j v 0 (λ z. eqb-false r j e (sym z))

within_whatever_beyond : (rs : Registers) (j d d' : ℕ) → j < length rs → get_or rs j d ≡ get_or rs j d'
within_whatever_beyond [] j d d' h = absurd (omega arith)
within_whatever_beyond (x ∷ rs) zero d d' h = refl
within_whatever_beyond (x ∷ rs) (suc j) d d' h = within_whatever_beyond rs j d d' (omega arith)

-- a register of ours has our value, whatever stands beyond ours
pub value_there :
    (beyond : ℕ → ℕ) (rs : Registers) (j : ℕ) → length rs ≡ register_count → j < register_count → get_or rs j (beyond j) ≡ value rs j
unfolding value
value_there beyond rs j len h = within_whatever_beyond rs j (beyond j) 0 (omega (arith, len))
