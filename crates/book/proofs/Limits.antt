-- A line within the limits of its kind passes 7 to 10.
-- By the kinds: of 0, 6 and 7 nothing is within the limits, and of the others every test is false there. Assumes nothing.
use Prim.Native.Nat.{ℕ, zero, suc, ◌<◌}
use native.Mathlib.Omega.{arith}
use mathlib.Core.Bool.{Bool, true}
use mathlib.Core.List.{List}
use mathlib.Core.Path.{◌≡◌, sym, ◌∙◌}
use lib.ListN.{get_or}
use Rattle.scope.specs.Words.{if}
use Rattle.scope.specs.Refusals.{pass}
use Rattle.scope.specs.Book.{last_register, kind_wrong, register_wrong, target_wrong, callee_wrong, line_test}
use Rattle.scope.proofs.Verdicts.{below_tells, above_tells, not_below_tells, is_not_tells, and_tells, goes_on}
use Rattle.book.specs.declared.judging.Limit.{Limit}
use Rattle.book.specs.Limits.{kinds, none, limits, within}

by_kind : (k g o r n p : ℕ) → k < kinds → g < (get_or (limits r n) k none).register → o < (get_or (limits r n) k none).operand → line_test k g o r n p ≡ pass
unfolding limits line_test kind_wrong register_wrong target_wrong callee_wrong if
by_kind zero g o r n p h s t = absurd (omega arith)
by_kind (suc zero) g o r n p h s t = goes_on _ _ (above_tells g last_register) (omega arith) ∙ goes_on _ _ (is_not_tells o 0) (omega arith)
by_kind (suc (suc zero)) g o r n p h s t = goes_on _ _ (above_tells g last_register) (omega arith) ∙ goes_on _ _ (above_tells o n) (omega arith)
by_kind (suc (suc (suc zero))) g o r n p h s t = goes_on _ _ (is_not_tells g 0) (omega arith) ∙ goes_on _ _ (above_tells o n) (omega arith)
by_kind (suc (suc (suc (suc zero)))) g o r n p h s t = goes_on _ _ (is_not_tells g 0) (omega arith) ∙ goes_on _ _ (not_below_tells o r) (omega arith)
by_kind (suc (suc (suc (suc (suc zero))))) g o r n p h s t = goes_on _ _ (above_tells g last_register) (omega arith) ∙ goes_on _ _ (not_below_tells o r) (omega arith)
by_kind (suc (suc (suc (suc (suc (suc zero)))))) g o r n p h s t = absurd (omega arith)
by_kind (suc (suc (suc (suc (suc (suc (suc zero))))))) g o r n p h s t = absurd (omega arith)
by_kind (suc (suc (suc (suc (suc (suc (suc (suc k)))))))) g o r n p h s t = absurd (omega arith)

pub within_passes : (row : List Limit) (k g o r n p : ℕ) (w : Bool) → row ≡ limits r n → w ≡ within row k g o → w ≡ true
    → pass ≡ line_test k g o r n p
unfolding within
within_passes row k g o r n p w same said e =
    let looks = and_tells (below_tells k kinds) (and_tells (below_tells g (get_or row k none).register) (below_tells o (get_or row k none).operand)) in
    let t = looks.when_true.0 (sym said ∙ e) in
    sym (by_kind k g o r n p t.0 (rw (sym same) t.1.0) (rw (sym same) t.1.1))
