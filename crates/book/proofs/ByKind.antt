-- What the tests 7 to 10 come to for each kind, and where no kind was found.
-- A number of a kind is one of five, so each test of the definition computes to the one that the code makes. Assumes nothing.
use Rattle.std.specs.Prelude.{Ok, Err}
use Prim.Native.Nat.{ℕ}
use mathlib.Core.Bool.{Bool, true, false, not}
use mathlib.Core.Logic.{◌⊎◌, inl, inr}
use mathlib.Core.Path.{◌≡◌, refl, subst, sym, ◌∙◌, ap}
use lib.Dec.{eqb, leb, ltb}
use Rattle.scope.specs.Words.{if}
use Rattle.scope.specs.Refusals.{KIND, REGISTER, TARGET, CALLEE, refusal, refuse}
use Rattle.scope.specs.Book.{register_wrong, target_wrong, callee_wrong, line_test}
use Rattle.book.specs.declared.lines.Kind.{Kind}
use Rattle.book.specs.declared.lines.Kind.TheVariants.{Inc, Dec, GoTo, Call, Repeat}
use Rattle.book.specs.declared.refusals.Name.{Name}
use Rattle.book.specs.declared.refusals.Refusal.{Refusal}
use Rattle.book.specs.Told.{IsKind, kind_told, refusal_told, verdict_told}
use Rattle.book.proofs.Rules.{so_then, so_else}

-- what holds of two kinds, or of three, holds of one that is among them
module _ (P : Kind → Type 0) {k m n : Kind} where
  of_two : P m → P n → (k ≡ m) ⊎ (k ≡ n) → P k
  of_two p q (inl e) = subst P (sym e) p
  of_two p q (inr e) = subst P (sym e) q

  of_three : {l : Kind} → P m → P n → P l → (k ≡ m) ⊎ ((k ≡ n) ⊎ (k ≡ l)) → P k
  of_three p q r (inl e) = subst P (sym e) p
  of_three p q r (inr (inl e)) = subst P (sym e) q
  of_three p q r (inr (inr e)) = subst P (sym e) r

-- In each, t is what the code answers.

-- ---- 8 REGISTER

module _ (k : Kind) (g : ℕ) (t : Bool) where
  pub zero_stands : (k ≡ GoTo) ⊎ (k ≡ Call) → t ≡ not (eqb g 0) → t ≡ register_wrong (kind_told k) g
  unfolding register_wrong kind_told if
  zero_stands h e = of_two (λ k. t ≡ register_wrong (kind_told k) g) e e h

  pub a_register_stands : (k ≡ Inc) ⊎ ((k ≡ Dec) ⊎ (k ≡ Repeat)) → t ≡ ltb 31 g → t ≡ register_wrong (kind_told k) g
  unfolding register_wrong kind_told if
  a_register_stands h e = of_three (λ k. t ≡ register_wrong (kind_told k) g) e e e h

-- ---- 9 TARGET

module _ (k : Kind) (o n : ℕ) (t : Bool) where
  pub no_operand : k ≡ Inc → t ≡ not (eqb o 0) → t ≡ target_wrong (kind_told k) o n
  unfolding target_wrong kind_told if
  no_operand h e = subst (λ k. t ≡ target_wrong (kind_told k) o n) (sym h) e

  pub a_target_stands : (k ≡ Dec) ⊎ (k ≡ GoTo) → t ≡ ltb n o → t ≡ target_wrong (kind_told k) o n
  unfolding target_wrong kind_told if
  a_target_stands h e = of_two (λ k. t ≡ target_wrong (kind_told k) o n) e e h

  pub no_target : (k ≡ Call) ⊎ (k ≡ Repeat) → t ≡ false → t ≡ target_wrong (kind_told k) o n
  unfolding target_wrong kind_told if
  no_target h e = of_two (λ k. t ≡ target_wrong (kind_told k) o n) e e h

-- ---- 10 CALLEE

module _ (k : Kind) (o r : ℕ) (t : Bool) where
  pub a_callee_stands : (k ≡ Call) ⊎ (k ≡ Repeat) → t ≡ leb r o → t ≡ callee_wrong (kind_told k) o r
  unfolding callee_wrong kind_told if
  a_callee_stands h e = of_two (λ k. t ≡ callee_wrong (kind_told k) o r) e e h

  pub no_callee : (k ≡ Inc) ⊎ ((k ≡ Dec) ⊎ (k ≡ GoTo)) → t ≡ false → t ≡ callee_wrong (kind_told k) o r
  unfolding callee_wrong kind_told if
  no_callee h e = of_three (λ k. t ≡ callee_wrong (kind_told k) o r) e e e h

-- ---- a line's row of tests

module _ (k g o r n p : ℕ) where
  pub kind_refused : (x : Refusal) (m : Name) → IsKind k (Err m) → refusal_told x ≡ refusal KIND p → verdict_told (Err x) ≡ line_test k g o r n p
  unfolding IsKind verdict_told line_test
  kind_refused x m f s = so_then _ _ _ _ (ap refuse s) f.1

  -- The kind is found; t, u and v are what the tests 8, 9 and 10 answer.
  module _ (kind : Kind) (found : IsKind k (Ok kind)) (t : Bool) (tested_8 : t ≡ register_wrong (kind_told kind) g) where
    answers_8 : {b : Bool} → t ≡ b → register_wrong k g ≡ b
    unfolding IsKind
    answers_8 e = ap (λ m. register_wrong m g) (sym found.0) ∙ sym tested_8 ∙ e

    pub register_refused : (x : Refusal) → t ≡ true → refusal_told x ≡ refusal REGISTER p → verdict_told (Err x) ≡ line_test k g o r n p
    unfolding IsKind verdict_told line_test
    register_refused x e s = so_else _ _ _ _ found.1 (so_then _ _ _ _ (ap refuse s) (answers_8 e))

    module _ (right_8 : t ≡ false) (u : Bool) (tested_9 : u ≡ target_wrong (kind_told kind) o n) where
      answers_9 : {b : Bool} → u ≡ b → target_wrong k o n ≡ b
      unfolding IsKind
      answers_9 e = ap (λ m. target_wrong m o n) (sym found.0) ∙ sym tested_9 ∙ e

      pub target_refused : (x : Refusal) → u ≡ true → refusal_told x ≡ refusal TARGET p → verdict_told (Err x) ≡ line_test k g o r n p
      unfolding IsKind verdict_told line_test
      target_refused x e s = so_else _ _ _ _ found.1 (so_else _ _ _ _ (answers_8 right_8) (so_then _ _ _ _ (ap refuse s) (answers_9 e)))

      module _ (right_9 : u ≡ false) (v : Bool) (tested_10 : v ≡ callee_wrong (kind_told kind) o r) where
        answers_10 : {b : Bool} → v ≡ b → callee_wrong k o r ≡ b
        unfolding IsKind
        answers_10 e = ap (λ m. callee_wrong m o r) (sym found.0) ∙ sym tested_10 ∙ e

        pub callee_refused : (x : Refusal) → v ≡ true → refusal_told x ≡ refusal CALLEE p → verdict_told (Err x) ≡ line_test k g o r n p
        unfolding IsKind verdict_told line_test
        callee_refused x e s =
            so_else _ _ _ _ found.1 (so_else _ _ _ _ (answers_8 right_8) (so_else _ _ _ _ (answers_9 right_9)
            (so_then _ _ _ _ (ap refuse s) (answers_10 e))))

        pub line_passes : v ≡ false → verdict_told (Ok tt) ≡ line_test k g o r n p
        unfolding IsKind verdict_told line_test
        line_passes e =
            so_else _ _ _ _ found.1 (so_else _ _ _ _ (answers_8 right_8) (so_else _ _ _ _ (answers_9 right_9)
            (so_else _ _ _ _ (answers_10 e) refl)))
