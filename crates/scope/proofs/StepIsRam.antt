-- A step of our machine is the transition of source document 000's machine, unless that would leave a register above 65,535.
-- By the instruction at the line: each does to a list of 32 registers what its rule does to the first 32 of an endless row. Assumes nothing.
use Prim.Native.Nat.{ℕ, zero, suc, ◌-◌, ◌≤◌, ◌<◌}
use mathlib.Core.Bool.{Bool, true, false}
use mathlib.Core.Path.{◌≡◌, refl, sym, ◌∙◌, subst⁻¹}
use mathlib.Core.Logic.{◌≢◌}
use mathlib.Core.List.{[], ◌∷◌}
use native.Mathlib.Omega.{arith}
use native.Mathlib.Decide.{ℕ_discrete}
use lib.ListN.{length, drop, get_or, get_or-eq_default, length-drop, length-set}
use lib.Seq.{get_or-set_same, get_or-set_other}
use lib.Dec.{eqb}
use borrow.Author.Tests.{eqb-true, eqb-false}
use Rattle.scope.specs.Words.{if}
use Rattle.scope.specs.Ram.{INC, DEC, GO_TO, Program, Has, has, TargetWithin, TargetsWithin, Configuration, IsConfiguration, Final, AllRegistersStay, OtherRegistersStay, GoesTo, final, rule_1, rule_2, rule_3, rule_4}
use Rattle.scope.specs.Steps.{register_count, top, Registers, value, with_value, ValuesWithin, Next, at_the_end, before_full, goes_to, adds_one, takes_one_from, takes_one_off}
use Rattle.scope.specs.Running.{flat_step, flat_next}
use Rattle.scope.specs.Transitions.{configuration, RegisterWithin, RegistersWithin, OurProgram, Full, Overflows, StepIsTransition}
use Rattle.scope.proofs.Registers.{value_there, written_within}
use Rattle.scope.proofs.Ram.{has_one, has_below, has_not_final, INC_adds, one_transition, some_transition}

-- ---- lists of registers

-- a value that we write in a register of ours stands there
written_there :
    (beyond : ℕ → ℕ) (rs : Registers) (j v : ℕ) → length rs ≡ register_count → j < register_count
    → get_or (with_value rs j v) j (beyond j) ≡ v
unfolding with_value
written_there beyond rs j v len h = get_or-set_same rs j v (beyond j) (omega (arith, len))

-- With 0 from register 32 on, ours is a configuration of the source's: 0 almost everywhere, with PC at most n.
pub ours_is_a_configuration :
    (P : Program) (line : ℕ) (rs : Registers) → line ≤ length P → IsConfiguration P (configuration (λ j. 0) line rs)
unfolding configuration
ours_is_a_configuration P line rs h =
    record { bound = length rs; zero_from_the_bound_on = λ j past. get_or-eq_default rs 0 past; pc_within = h }

-- ---- the step, by cases

pub full_not_final : {P : Program} {c : Configuration} {j : ℕ} → Full P c j → Final P c → ⊥
unfolding Final
full_not_final f h = has_not_final f.before_INC h

-- what is known of each answer of the step at a line
pub data Stepped (P : Program) (beyond : ℕ → ℕ) (line : ℕ) (rs : Registers) : Next ℕ → Type 0 where
  ends : Final P (configuration beyond line rs) → Stepped P beyond line rs at_the_end
  full : {j : ℕ} → Full P (configuration beyond line rs) j → Stepped P beyond line rs (before_full j)
  goes : {p' : ℕ} {rs' : Registers}
      → (Final P (configuration beyond line rs) → ⊥)
      → ((j : ℕ) → Full P (configuration beyond line rs) j → ⊥)
      → GoesTo P (configuration beyond line rs) (configuration beyond p' rs')
      → length rs' ≡ register_count → p' ≤ length P → (ValuesWithin rs → ValuesWithin rs')
      → Stepped P beyond line rs (goes_to p' rs')

module _ {P : Program} (ours : OurProgram P) (beyond : ℕ → ℕ) (line : ℕ) (rs : Registers) (len : length rs ≡ register_count) where
  stepped_INC : (j : ℕ) → Has P line (INC j) → Stepped P beyond line rs (adds_one j rs (suc line))
  unfolding configuration Final RegisterWithin RegistersWithin OtherRegistersStay with_value adds_one if ValuesWithin
  stepped_INC j h = go (eqb (value rs j) top) refl
    where
      j<32 : j < register_count
      j<32 = ours.registers_within line (INC j) h

      go :
          (t : Bool) → eqb (value rs j) top ≡ t
          → Stepped P beyond line rs (if t (before_full j) (goes_to (suc line) (with_value rs j (suc (value rs j)))))
      go true e = full (record { before_INC = h; at_the_top = value_there beyond rs j len j<32 ∙ eqb-true (value rs j) top e })
      go false e =
          let below : value rs j ≢ top = eqb-false (value rs j) top e in
          goes {p' = suc line} {rs' = with_value rs j (suc (value rs j))}
          (has_not_final h)
          (λ i f. let z : i ≡ j = cc (has_one f.before_INC h) in below (sym (value_there beyond rs j len j<32) ∙ (rw z at f.at_the_top)))
          (rule_1 h (omega (arith, written_there beyond rs j (suc (value rs j)) len j<32, value_there beyond rs j len j<32)) (omega arith)
          (λ i n. get_or-set_other rs j i (suc (value rs j)) (beyond i) n))
          (length-set rs j (suc (value rs j)) ∙ len)
          (has_below h)
          (λ w. written_within rs j (suc (value rs j)) (omega (arith, w j)) w)

  stepped_DEC : (j l : ℕ) → Has P line (DEC j l) → Stepped P beyond line rs (takes_one_off j rs (suc line) l)
  unfolding configuration Final RegisterWithin RegistersWithin TargetWithin TargetsWithin AllRegistersStay OtherRegistersStay with_value takes_one_off takes_one_from ValuesWithin
  stepped_DEC j l h = go (value rs j) refl
    where
      j<32 : j < register_count
      j<32 = ours.registers_within line (DEC j l) h

      not_full : (i : ℕ) → Full P (configuration beyond line rs) i → ⊥
      not_full i f = let y : ◌≡◌ {A = ℕ} 0 1 = cc (has_one f.before_INC h) in absurd (omega arith)

      go : (v : ℕ) → value rs j ≡ v → Stepped P beyond line rs (takes_one_from v j rs (suc line) l)
      go zero e =
          goes (has_not_final h) not_full (rule_3 h (value_there beyond rs j len j<32 ∙ e) refl (λ i. refl)) len (ours.targets_within line (DEC j l) h) (λ w. w)
      go (suc v) e =
          goes {p' = suc line} {rs' = with_value rs j v}
          (has_not_final h)
          not_full
          (rule_2 h (omega (arith, written_there beyond rs j v len j<32, value_there beyond rs j len j<32, e)) (omega arith)
          (λ i n. get_or-set_other rs j i v (beyond i) n))
          (length-set rs j v ∙ len)
          (has_below h)
          (λ w. written_within rs j v (omega (arith, w j)) w)

  stepped_GO_TO : (l : ℕ) → Has P line (GO_TO l) → Stepped P beyond line rs (goes_to l rs)
  unfolding configuration Final TargetWithin TargetsWithin AllRegistersStay
  stepped_GO_TO l h =
      goes
      (has_not_final h)
      (λ i f. let y : ◌≡◌ {A = ℕ} 0 1 = cc (has_one f.before_INC h) in absurd (omega arith))
      (rule_4 h refl (λ i. refl))
      len
      (ours.targets_within line (GO_TO l) h)
      (λ w. w)

  pub stepped : line ≤ length P → Stepped P beyond line rs (flat_next P line rs)
  unfolding flat_next flat_step configuration Final
  stepped h = go (drop line P) refl
    where
      go : (xs : Program) → drop line P ≡ xs → Stepped P beyond line rs (flat_step line xs rs)
      go [] e =
          let z : 0 ≡ length P - line = rw e at (length-drop line P) in
          ends (omega (arith, z))
      go (INC j ∷ xs) e = stepped_INC j (has e)
      go (DEC j l ∷ xs) e = stepped_DEC j l (has e)
      go (GO_TO l ∷ xs) e = stepped_GO_TO l (has e)

-- ---- the step, as one statement

module _ {P : Program} (ours : OurProgram P) (beyond : ℕ → ℕ) (line : ℕ) (rs : Registers) (len : length rs ≡ register_count) (in_it : line ≤ length P) where
  abbrev at_c : Configuration
  at_c = configuration beyond line rs

  full_overflows : {j : ℕ} → Full P at_c j → Overflows P at_c j
  unfolding configuration RegisterWithin RegistersWithin
  full_overflows {j} f =
      let (d, g) = some_transition P at_c in_it in
      record {
        after = d;
        transition = g;
        one_of_ours = ours.registers_within line (INC j) f.before_INC;
        above_the_top = omega (arith, (INC_adds f.before_INC g).0, f.at_the_top);
      }

  overflow_is_full : ValuesWithin rs → (j : ℕ) → Overflows P at_c j → {n : Next ℕ} → Stepped P beyond line rs n → n ≡ before_full j
  unfolding configuration AllRegistersStay OtherRegistersStay ValuesWithin
  overflow_is_full w j o (ends f) =
      let e : o.after ≡ at_c = one_transition o.transition (final f refl (λ i. refl)) in
      absurd (omega (arith, rw e at o.above_the_top, value_there beyond rs j len o.one_of_ours, w j))
  overflow_is_full w j o (full {j = k} f) = go (ℕ_discrete j k)
    where
      go : Dec (j ≡ k) → ◌≡◌ {A = Next ℕ} (before_full k) (before_full j)
      go (yes e) = cc
      go (no n) =
          absurd (omega (arith, (INC_adds f.before_INC o.transition).1 j n, o.above_the_top, value_there beyond rs j len o.one_of_ours, w j))
  overflow_is_full w j o (goes {p'} {rs'} nf nu g len' p w') =
      let e : o.after ≡ configuration beyond p' rs' = one_transition o.transition g in
      absurd (omega (arith, rw e at o.above_the_top, value_there beyond rs' j len' o.one_of_ours, w' w j))

  final_is_the_end : {n : Next ℕ} → Final P at_c → Stepped P beyond line rs n → n ≡ at_the_end
  final_is_the_end h (ends f) = refl
  final_is_the_end h (full f) = absurd (full_not_final f h)
  final_is_the_end h (goes nf nu g len' p w) = absurd (nf h)

  pub step_is_ram : StepIsTransition P beyond line rs
  unfolding configuration Final
  step_is_ram =
      record {
        at_the_end_exactly = (λ e. the_end (rw e at s), λ f. final_is_the_end f s);
        is_the_transition = λ e d. (λ g. one_transition g (the_step (rw e at s)).0, λ z. subst⁻¹ (GoesTo P at_c) z (the_step (rw e at s)).0);
        registers_again = λ e. (the_step (rw e at s)).1;
        line_again = λ e. (the_step (rw e at s)).2;
        values_again = λ w e. (the_step (rw e at s)).3 w;
        before_full_exactly = λ w j. (λ e. full_overflows (the_full (rw e at s)), λ o. overflow_is_full w j o s);
      }
    where
      s : Stepped P beyond line rs (flat_next P line rs)
      s = stepped ours beyond line rs len in_it

      the_end : Stepped P beyond line rs at_the_end → Final P at_c
      the_end (ends f) = f

      the_full : {j : ℕ} → Stepped P beyond line rs (before_full j) → Full P at_c j
      the_full (full f) = f

      the_step :
          {p' : ℕ} {rs' : Registers} → Stepped P beyond line rs (goes_to p' rs')
          → GoesTo P at_c (configuration beyond p' rs') × (length rs' ≡ register_count) × (p' ≤ length P) × (ValuesWithin rs → ValuesWithin rs')
      the_step (goes nf nu g len' p w) = (g, len', p, w)
