-- Source document 000, Lemma 1.9: every configuration goes to exactly one configuration.
-- The one that it goes to is a function of the instruction at PC, and each of the five rules says what that function does. Assumes nothing.
use Prim.Native.Nat.{ℕ, zero, suc, ◌+◌, ◌-◌, ◌≤◌, ◌<◌, max}
use mathlib.Core.Path.{◌≡◌, refl, sym, ◌∙◌}
use mathlib.Core.Logic.{◌≢◌}
use mathlib.Core.List.{[], ◌∷◌}
use native.Mathlib.Omega.{arith}
use native.Mathlib.Decide.{ℕ_discrete}
use lib.ListN.{length, drop, length-drop, drop_of_length-le}
use borrow.Author.Tests.{eq-eqb, ne_eqb}
use Rattle.scope.specs.Words.{◌is◌, if}
use Rattle.scope.specs.Ram.{Instruction, INC, DEC, GO_TO, Program, Has, has, TargetWithin, TargetsWithin, Configuration, IsConfiguration, Final, AllRegistersStay, OtherRegistersStay, GoesTo, final, rule_1, rule_2, rule_3, rule_4}
use Rattle.scope.proofs.Lists.{stands_below}

-- ---- the instruction with a number

pub has_one : {P : Program} {p : ℕ} {I J : Instruction} → Has P p I → Has P p J → I ≡ J
has_one (has i) (has j) = cc

pub has_later : {P : Program} {p : ℕ} {I J : Instruction} → Has P p I → Has (J ∷ P) (suc p) I
has_later (has e) = has e

pub has_below : {P : Program} {p : ℕ} {I : Instruction} → Has P p I → p < length P
has_below {P} {p} (has e) = stands_below P p e

pub has_not_final : {P : Program} {p : ℕ} {I : Instruction} → Has P p I → p ≡ length P → ⊥
has_not_final h e = omega (arith, has_below h, e)

-- ---- equal configurations

same_configuration : {c d : Configuration} → c.pc ≡ d.pc → ((i : ℕ) → c.registers i ≡ d.registers i) → c ≡ d
same_configuration l r = λ k. record { registers = λ i. r i k; pc = l k }

-- ---- the configuration that one goes to

-- the registers, but v in register j
with_register : (ℕ → ℕ) → (j v : ℕ) → ℕ → ℕ
with_register f j v i = if (i is j) v (f i)

with_register_there : (f : ℕ → ℕ) (j v : ℕ) → with_register f j v j ≡ v
unfolding with_register if
with_register_there f j v = rw (eq-eqb j j refl)

with_register_elsewhere : (f : ℕ → ℕ) (j v i : ℕ) → i ≢ j → with_register f j v i ≡ f i
unfolding with_register if
with_register_elsewhere f j v i n = rw (ne_eqb i j n)

with_register_is : (f g : ℕ → ℕ) (j v : ℕ) → g j ≡ v → ((i : ℕ) → i ≢ j → g i ≡ f i) → (i : ℕ) → g i ≡ with_register f j v i
with_register_is f g j v h o i = go (ℕ_discrete i j)
  where
    go : Dec (i ≡ j) → g i ≡ with_register f j v i
    go (yes z) = rw (z, h) (sym (with_register_there f j v))
    go (no n) = o i n ∙ sym (with_register_elsewhere f j v i n)

after_DEC : (value j l : ℕ) → Configuration → Configuration
after_DEC zero j l c = record { registers = c.registers; pc = l }
after_DEC (suc v) j l c = record { registers = with_register c.registers j v; pc = c.pc + 1 }

after : Program → Configuration → Configuration
after [] c = c
after (INC j ∷ xs) c = record { registers = with_register c.registers j (c.registers j + 1); pc = c.pc + 1 }
after (DEC j l ∷ xs) c = after_DEC (c.registers j) j l c
after (GO_TO l ∷ xs) c = record { registers = c.registers; pc = l }

-- each rule says what `after` does
is_after : {P : Program} {c d : Configuration} → GoesTo P c d → d ≡ after (drop c.pc P) c
unfolding after after_DEC Final AllRegistersStay OtherRegistersStay
is_after {P} {c} (final f l r) =
    let e : drop c.pc P ≡ [] = drop_of_length-le P {i = c.pc} (omega (arith, f)) in
    rw e (same_configuration l r)
is_after {P} {c} {d} (rule_1 {j} (has h) v l r) =
    rw h (same_configuration l (with_register_is c.registers d.registers j (c.registers j + 1) v r))
is_after {P} {c} {d} (rule_2 {j} {l = t} (has h) v l r) =
    let w : c.registers j ≡ suc (d.registers j) = omega (arith, v) in
    rw (h, w) (same_configuration l (with_register_is c.registers d.registers j (d.registers j) refl r))
is_after {P} {c} (rule_3 (has h) v l r) = rw (h, v) (same_configuration l r)
is_after {P} {c} (rule_4 (has h) l r) = rw h (same_configuration l r)

pub one_transition : {P : Program} {c d e : Configuration} → GoesTo P c d → GoesTo P c e → d ≡ e
one_transition g h = is_after g ∙ sym (is_after h)

pub some_transition : (P : Program) (c : Configuration) → c.pc ≤ length P → (d : Configuration) × GoesTo P c d
unfolding after after_DEC Final AllRegistersStay OtherRegistersStay
some_transition P c h = (after (drop c.pc P) c, go (drop c.pc P) refl)
  where
    take_off : (v j l : ℕ) → c.registers j ≡ v → Has P c.pc (DEC j l) → GoesTo P c (after_DEC v j l c)
    take_off zero j l e i = rule_3 i e refl (λ k. refl)
    take_off (suc v) j l e i =
        rule_2 i (rw (with_register_there c.registers j v) (omega (arith, e))) refl (with_register_elsewhere c.registers j v)

    go : (xs : Program) → drop c.pc P ≡ xs → GoesTo P c (after xs c)
    go [] e =
        let z : 0 ≡ length P - c.pc = rw e at (length-drop c.pc P) in
        final (omega (arith, z)) refl (λ k. refl)
    go (INC j ∷ xs) e =
        rule_1 (has e) (with_register_there c.registers j (c.registers j + 1)) refl (with_register_elsewhere c.registers j (c.registers j + 1))
    go (DEC j l ∷ xs) e = take_off (c.registers j) j l refl (has e)
    go (GO_TO l ∷ xs) e = rule_4 (has e) refl (λ k. refl)

-- what rule 1 says, whichever rule is said to have been used
pub INC_adds :
    {P : Program} {c d : Configuration} {j : ℕ} → Has P c.pc (INC j) → GoesTo P c d
    → (d.registers j ≡ c.registers j + 1) × OtherRegistersStay j c d
unfolding Final
INC_adds h (final f l r) = absurd (has_not_final h f)
INC_adds {j} h (rule_1 {j = k} i v l r) = let z : k ≡ j = cc (has_one h i) in (rw z at v, rw z at r)
INC_adds h (rule_2 i v l r) = let y : ◌≡◌ {A = ℕ} 0 1 = cc (has_one h i) in absurd (omega arith)
INC_adds h (rule_3 i v l r) = let y : ◌≡◌ {A = ℕ} 0 1 = cc (has_one h i) in absurd (omega arith)
INC_adds h (rule_4 i l r) = let y : ◌≡◌ {A = ℕ} 0 1 = cc (has_one h i) in absurd (omega arith)

-- ---- it is a configuration again: 0 almost everywhere, with PC at most n

module _ {P : Program} {c d : Configuration} (ok : IsConfiguration P c) where
  every_one_stays : AllRegistersStay c d → d.pc ≤ length P → IsConfiguration P d
  unfolding AllRegistersStay
  every_one_stays r l = record { bound = ok.bound; zero_from_the_bound_on = λ i h. r i ∙ ok.zero_from_the_bound_on i h; pc_within = l }

  all_but_one_stay : (j : ℕ) → OtherRegistersStay j c d → d.pc ≤ length P → IsConfiguration P d
  unfolding OtherRegistersStay
  all_but_one_stay j r l =
      record {
        bound = max ok.bound (suc j);
        zero_from_the_bound_on = λ i h. r i (λ e. omega (arith, e)) ∙ ok.zero_from_the_bound_on i (omega arith);
        pc_within = l;
      }

configuration_again : {P : Program} {c d : Configuration} → TargetsWithin P → IsConfiguration P c → GoesTo P c d → IsConfiguration P d
unfolding TargetWithin TargetsWithin
configuration_again t ok (final f l r) = every_one_stays ok r (omega (arith, l, ok.pc_within))
configuration_again t ok (rule_1 {j} h v l r) = all_but_one_stay ok j r (omega (arith, l, has_below h))
configuration_again t ok (rule_2 {j} h v l r) = all_but_one_stay ok j r (omega (arith, l, has_below h))
configuration_again {c} t ok (rule_3 {j} {l = k} h v l r) = every_one_stays ok r (omega (arith, l, t c.pc (DEC j k) h))
configuration_again {c} t ok (rule_4 {l = k} h l r) = every_one_stays ok r (omega (arith, l, t c.pc (GO_TO k) h))

-- Lemma 1.9, whole
pub goes_to_exactly_one :
    {P : Program} {c : Configuration} → TargetsWithin P → IsConfiguration P c
    → (d : Configuration) × IsConfiguration P d × GoesTo P c d × ((e : Configuration) → GoesTo P c e → d ≡ e)
goes_to_exactly_one {P} {c} t ok =
    let (d, g) = some_transition P c ok.pc_within in
    (d, configuration_again t ok g, g, λ e h. one_transition g h)
