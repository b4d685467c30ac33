-- The moves that cost no step lead, by the paper's rules, to the place that `settle` gives and to no other.
-- `settle` does at each line what the rule for that line says, and a routine enters lower ones only, so the moves come to an end.
use Prim.Native.Nat.{ℕ, zero, suc, ◌<◌}
use native.Mathlib.Omega.{arith}
use mathlib.Core.Path.{◌≡◌, refl, ◌∙◌, subst⁻¹}
use mathlib.Core.Logic.{◌↔◌}
use mathlib.Core.List.{List, [], ◌∷◌}
use lib.ListN.{drop}
use Rattle.scope.specs.Book.{Line, INC, DEC, GO_TO, CALL, REPEAT, Book, routine, by_CALL, CalleesBelow}
use Rattle.scope.specs.Nested.{OpenedBy, a_CALL, a_REPEAT, Place, come_to, enter_by, enter, leave, settle}
use Rattle.scope.specs.Moves.{MovesTo, INC_is_a_step, DEC_is_a_step, GO_TO_is_a_step, REPEAT_looks, CALL_enters, CALL_goes_on, REPEAT_goes_back, asked_is_at_its_end}
use Rattle.scope.proofs.Lowest.{enter_by_the_rule}
use Rattle.scope.proofs.Lists.{drop_tail}

module _ (book : Book) (ok : CalleesBelow book) where
  -- ---- what `settle` gives, the moves lead to

  -- From the end of routine c the moves lead to `after`.
  abbrev FromTheEnd : ℕ → List OpenedBy → Place → Type 0
  FromTheEnd c around after = (j : ℕ) → drop j (routine book c) ≡ [] → MovesTo book c j around after

  -- The moves lead through routine c to `after`, if they lead there from its end.
  LeadsThrough : ℕ → Type 0
  LeadsThrough c =
      (around : List OpenedBy) (after : Place) → FromTheEnd c around after → MovesTo book c 0 around (enter book c around after)

  come_to_moves :
      (k : ℕ) (through : (c : ℕ) → c < k → LeadsThrough c) (i : ℕ) (ls : List Line) (around : List OpenedBy) (after : Place)
      → drop i (routine book k) ≡ ls → FromTheEnd k around after → MovesTo book k i around (come_to (enter book) k i ls around after)
  unfolding come_to LeadsThrough CalleesBelow
  come_to_moves k through i [] around after e from_end = from_end i e
  come_to_moves k through i (INC r ∷ ls) around after e from_end = INC_is_a_step e
  come_to_moves k through i (DEC r t ∷ ls) around after e from_end = DEC_is_a_step e
  come_to_moves k through i (GO_TO t ∷ ls) around after e from_end = GO_TO_is_a_step e
  come_to_moves k through i (CALL c ∷ ls) around after e from_end =
      let below = ok k c (record { at_line = i; line = CALL c; rest = ls; stands = e; line_uses = by_CALL }) in
      let on = come_to_moves k through (suc i) ls around after (drop_tail (routine book k) i e) from_end in
      CALL_enters e (through c below (a_CALL k i ∷ around) (come_to (enter book) k (suc i) ls around after) (λ j d. CALL_goes_on d on))
  come_to_moves k through i (REPEAT r c ∷ ls) around after e from_end = REPEAT_looks e

  leads_through_below : (n c : ℕ) → c < n → LeadsThrough c
  unfolding LeadsThrough enter_by
  leads_through_below zero c lt around after from_end = absurd (omega arith)
  leads_through_below (suc n) c lt around after from_end =
      rw (enter_by_the_rule book ok c)
      (come_to_moves c (λ d l. leads_through_below n d (omega arith)) 0 (routine book c) around after refl from_end)

  come_to_is_moved_to :
      (k i : ℕ) (around : List OpenedBy) (after : Place) → FromTheEnd k around after
      → MovesTo book k i around (come_to (enter book) k i (drop i (routine book k)) around after)
  come_to_is_moved_to k i around after from_end =
      come_to_moves k (λ c lt. leads_through_below k c lt) i (drop i (routine book k)) around after refl from_end

  leave_is_moved_to :
      (c : ℕ) (around : List OpenedBy) (j : ℕ) → drop j (routine book c) ≡ [] → MovesTo book c j around (leave book c around)
  unfolding leave
  leave_is_moved_to c [] j d = asked_is_at_its_end d
  leave_is_moved_to c (a_CALL k i ∷ around) j d =
      CALL_goes_on d (come_to_is_moved_to k (suc i) around (leave book k around) (leave_is_moved_to k around))
  leave_is_moved_to c (a_REPEAT k i ∷ around) j d = REPEAT_goes_back d

  pub settle_is_moved_to : (k i : ℕ) (around : List OpenedBy) → MovesTo book k i around (settle book k i around)
  unfolding settle
  settle_is_moved_to k i around = come_to_is_moved_to k i around (leave book k around) (leave_is_moved_to k around)

  -- ---- what the moves lead to, `settle` gives

  entering_is_settling :
      {rest : List Line} {c : ℕ} (k i : ℕ) (around : List OpenedBy) → drop i (routine book k) ≡ CALL c ∷ rest
      → settle book c 0 (a_CALL k i ∷ around) ≡ settle book k i around
  unfolding settle come_to enter_by leave
  entering_is_settling {rest} {c} k i around e = rw (e, drop_tail (routine book k) i e, enter_by_the_rule book ok c) refl

  leaving_is_settling : (c j : ℕ) (around : List OpenedBy) → drop j (routine book c) ≡ [] → leave book c around ≡ settle book c j around
  unfolding settle come_to
  leaving_is_settling c j around d = rw d refl

  moves_to_settle :
      {k i : ℕ} {around : List OpenedBy} {place : Place} → MovesTo book k i around place → place ≡ settle book k i around
  unfolding settle come_to leave
  moves_to_settle (INC_is_a_step e) = rw e refl
  moves_to_settle (DEC_is_a_step e) = rw e refl
  moves_to_settle (GO_TO_is_a_step e) = rw e refl
  moves_to_settle (REPEAT_looks e) = rw e refl
  moves_to_settle {k = k} {i = i} {around = around} (CALL_enters e m) = moves_to_settle m ∙ entering_is_settling k i around e
  moves_to_settle {k = c} {i = j} {around = a_CALL k i ∷ around} (CALL_goes_on d m) = moves_to_settle m ∙ leaving_is_settling c j (a_CALL k i ∷ around) d
  moves_to_settle {k = c} {i = j} {around = a_REPEAT k i ∷ around} (REPEAT_goes_back d) = leaving_is_settling c j (a_REPEAT k i ∷ around) d
  moves_to_settle {k = k} {i = i} (asked_is_at_its_end d) = leaving_is_settling k i [] d

  -- So the relation and the function give the same place.
  pub moves_exactly :
      (k i : ℕ) (around : List OpenedBy) (place : Place) → MovesTo book k i around place ↔ (place ≡ settle book k i around)
  moves_exactly k i around place = (moves_to_settle, λ e. subst⁻¹ (MovesTo book k i around) e (settle_is_moved_to k i around))
