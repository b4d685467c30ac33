-- From line 0 the flat run ends as the nested reading says: outcome, steps, registers, and the line is the address of the place reached.
-- At a place reached, the flat line at its address does the nested step and leads to the next place's address; so they go in lockstep.
use Prim.Native.Nat.{ℕ, suc, ◌+◌}
use native.Mathlib.Omega.{arith}
use mathlib.Core.Path.{◌≡◌, refl, sym, ◌∙◌}
use mathlib.Core.List.{List, [], ◌∷◌, ◌++◌}
use lib.ListN.{drop}
use lib.Seq.{drop-length}
use Rattle.scope.specs.Ram as ram
use Rattle.scope.specs.Ram.{Program}
use Rattle.scope.specs.Book.{Line, Book, routine, CalleesBelow}
use Rattle.scope.specs.Steps.{Registers}
use Rattle.scope.specs.Nested.{OpenedBy, a_CALL, a_REPEAT, Place, due, settle, nested_step, nested_next, nested_run}
use Rattle.scope.specs.Flattening.{line_length, flat_length, start, copy_line, copy, flat_program}
use Rattle.scope.specs.Running.{flat_step, flat_next, flat_run}
use Rattle.scope.specs.Addresses.{begins, behind_its_start, address, SameEnd}
use Rattle.scope.proofs.FlatLines.{length_flat_program, first_start, next_start, Stands, whole_copy_stands, line_stands, repeat_looks, repeated_copy_stands, repeat_goes_back}
use Rattle.scope.proofs.Lockstep.{SameNext, both_at_the_end, both_go, both_add_one, both_take_one_off, lockstep}
use Rattle.scope.proofs.Places.{does_inc, does_dec, does_go_to, does_look, does_go_back, IsOpen, the_asked, called, repeated, Reached, the_end, a_step, ReachedAt, settle_keeps_address}

module _ (book : Book) (ok : CalleesBelow book) (asked : ℕ) where
  -- A flat line corresponds to a place of the nested reading that is reached and has it as address.
  abbrev StandsFor : ℕ → Place → Type 0
  StandsFor p place = ReachedAt book asked place p

  abbrev flat : Program
  flat = flat_program book asked

  -- The copy of an open routine stands where it begins.
  copy_stands :
      {k : ℕ} {around : List OpenedBy} → IsOpen book asked k around → Stands flat (begins book around) (copy book k (begins book around))
  unfolding begins copy_line
  copy_stands the_asked = whole_copy_stands book asked
  copy_stands {around = a_CALL k i ∷ around} (called e o) = line_stands book ok k i (copy_stands o) e refl
  copy_stands {around = a_REPEAT k i ∷ around} (repeated {r = r} {c = c} e o) =
      let p = begins book around + start book k i in
      repeated_copy_stands book k (begins book around) p r c (line_stands book ok k i (copy_stands o) e refl)

  -- What a line of an open routine left stands at its address.
  left_stands :
      {k : ℕ} {around : List OpenedBy} {l : Line} {rest : List Line} (i p : ℕ) → drop i (routine book k) ≡ l ∷ rest
      → IsOpen book asked k around → p ≡ begins book around + start book k i
      → Stands flat p (copy_line book (copy book) k (begins book around) p l)
  left_stands {k} i p e o a = line_stands book ok k i (copy_stands o) e a

  flat_next_there :
      {p : ℕ} (rs : Registers) (x : ram.Instruction) (xs : Program) (s : Stands flat p (x ∷ xs))
      → flat_next flat p rs ≡ flat_step p (x ∷ (xs ++ s.behind)) rs
  unfolding flat_next
  flat_next_there rs x xs s = rw s.there refl

  -- behind line i stands the next line, its length further on
  goes_on :
      {k : ℕ} {around : List OpenedBy} {l : Line} {rest : List Line} (i q : ℕ) → drop i (routine book k) ≡ l ∷ rest
      → IsOpen book asked k around → q ≡ begins book around + start book k i + line_length (flat_length book) l
      → ReachedAt book asked (settle book k (suc i) around) q
  goes_on {k} {around} {l} i q e o a = settle_keeps_address book ok asked k (suc i) around o (omega (arith, next_start book k i e))

  same_next_at :
      {place : Place} (p : ℕ) (rs : Registers) → Reached book asked place → address book asked place ≡ p
      → SameNext StandsFor (flat_next flat p rs) (nested_next book place rs)
  unfolding address behind_its_start nested_next nested_step copy_line flat_step line_length flat_next begins
  same_next_at p rs the_end a = rw (sym a ∙ sym (length_flat_program book asked), drop-length flat) both_at_the_end
  same_next_at {place = due d k i around} p rs (a_step e (does_inc {r = r}) o) a =
      rw (flat_next_there rs (ram.INC r) [] (left_stands i p e o (omega arith))) (both_add_one StandsFor r rs (goes_on i (suc p) e o (omega arith)))
  same_next_at {place = due d k i around} p rs (a_step e (does_dec {r = r} {t = t}) o) a =
      rw (flat_next_there rs (ram.DEC r (begins book around + start book k t)) [] (left_stands i p e o (omega arith)))
      (both_take_one_off StandsFor r rs (goes_on i (suc p) e o (omega arith)) (settle_keeps_address book ok asked k t around o refl))
  same_next_at {place = due d k i around} p rs (a_step e (does_go_to {t = t}) o) a =
      rw (flat_next_there rs (ram.GO_TO (begins book around + start book k t)) [] (left_stands i p e o (omega arith)))
      (both_go (settle_keeps_address book ok asked k t around o refl))
  same_next_at {place = due d k i around} p rs (a_step e (does_look {r = r} {c = c}) o) a =
      let s = repeat_looks book k (begins book around) p r c (left_stands i p e o (omega arith)) in
      rw (flat_next_there rs (ram.DEC r (p + flat_length book c + 2)) [] s)
      (both_take_one_off StandsFor r rs
      (settle_keeps_address book ok asked c 0 (a_REPEAT k i ∷ around) (repeated e o) (omega (arith, first_start book c)))
      (goes_on i (p + flat_length book c + 2) e o (omega arith)))
  same_next_at {place = due d k i around} p rs (a_step e (does_go_back {r = r} {c = c}) o) a =
      let q = begins book around + start book k i in
      let s = repeat_goes_back book k (begins book around) q r c (left_stands i q e o refl) p (omega arith) in
      rw (flat_next_there rs (ram.GO_TO q) [] s) (both_go (settle_keeps_address book ok asked k i around o refl))

  same_next :
      (p : ℕ) (place : Place) (rs : Registers) → StandsFor p place → SameNext StandsFor (flat_next flat p rs) (nested_next book place rs)
  same_next p place rs at_p = same_next_at p rs at_p.reached at_p.its_address

  -- Demand 3: for every book whose callees lie below their callers, every routine, of any flat length, all registers, every budget.
  pub simulation : (budget : ℕ) (rs : Registers) → SameEnd book asked (flat_run flat 0 budget rs) (nested_run book asked budget rs)
  unfolding flat_run nested_run begins
  simulation budget rs =
      let first : StandsFor 0 (settle book asked 0 []) =
      settle_keeps_address book ok asked asked 0 [] the_asked (omega (arith, first_start book asked)) in
      let same = lockstep StandsFor (flat_next flat) (nested_next book) same_next budget 0 (settle book asked 0 []) rs first in
      record {
        same_outcome = same.same_outcome;
        same_steps = same.same_steps;
        same_registers = same.same_registers;
        line_is_address = sym same.places_correspond.its_address;
      }
