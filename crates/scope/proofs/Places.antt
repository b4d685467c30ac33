-- Moves that cost no step keep the address, and lead to a place where a step is due or the asked routine is at its end.
-- A CALL starts where the copy of its routine begins, and a routine's end starts where the next line of its CALL does.
use Prim.Native.Nat.{ℕ, ◌+◌}
use native.Mathlib.Omega.{arith}
use mathlib.Core.Path.{◌≡◌, refl}
use mathlib.Core.List.{List, [], ◌∷◌}
use lib.ListN.{drop}
use Rattle.scope.specs.Book.{Line, INC, DEC, GO_TO, CALL, REPEAT, Book, routine, CalleesBelow}
use Rattle.scope.specs.Nested.{OpenedBy, a_CALL, a_REPEAT, Step, inc, dec, go_to, look, go_back, Place, ended, due, settle}
use Rattle.scope.specs.Flattening.{line_length, start}
use Rattle.scope.specs.Addresses.{begins, behind_its_start, address}
use Rattle.scope.specs.Moves.{MovesTo, INC_is_a_step, DEC_is_a_step, GO_TO_is_a_step, REPEAT_looks, CALL_enters, CALL_goes_on, REPEAT_goes_back, asked_is_at_its_end}
use Rattle.scope.proofs.Moves.{settle_is_moved_to}
use Rattle.scope.proofs.FlatLines.{first_start, next_start, end_start}

-- ---- places that a run of the asked routine can come to

-- the steps of a line other than CALL
pub data Does : Line → Step → Type 0 where
  does_inc : {r : ℕ} → Does (INC r) (inc r)
  does_dec : {r t : ℕ} → Does (DEC r t) (dec r t)
  does_go_to : {t : ℕ} → Does (GO_TO t) (go_to t)
  does_look : {r c : ℕ} → Does (REPEAT r c) (look r c)
  does_go_back : {r c : ℕ} → Does (REPEAT r c) (go_back c)

module _ (book : Book) (asked : ℕ) where
  -- Routine k is open, and around it those that these lines opened, the asked one outermost.
  pub data IsOpen : ℕ → List OpenedBy → Type 0 where
    the_asked : IsOpen asked []
    called :
        {k i c : ℕ} {around : List OpenedBy} {rest : List Line} → drop i (routine book k) ≡ CALL c ∷ rest → IsOpen k around
        → IsOpen c (a_CALL k i ∷ around)
    repeated :
        {k i r c : ℕ} {around : List OpenedBy} {rest : List Line} → drop i (routine book k) ≡ REPEAT r c ∷ rest → IsOpen k around
        → IsOpen c (a_REPEAT k i ∷ around)

  -- The asked routine is at its end, or the step of a line of an open routine is due.
  pub data Reached : Place → Type 0 where
    the_end : Reached ended
    a_step :
        {d : Step} {k i : ℕ} {around : List OpenedBy} {l : Line} {rest : List Line} → drop i (routine book k) ≡ l ∷ rest → Does l d
        → IsOpen k around → Reached (due d k i around)

  -- such a place with its address
  pub record ReachedAt (place : Place) (p : ℕ) : Type 0 where
    pub reached : Reached place
    pub its_address : address book asked place ≡ p

-- ---- moves that cost no step keep the address

module _ (book : Book) (ok : CalleesBelow book) (asked : ℕ) where
  due_here :
      {d : Step} {l : Line} {rest : List Line} {p : ℕ} (k i : ℕ) (around : List OpenedBy) → drop i (routine book k) ≡ l ∷ rest → Does l d
      → behind_its_start book d ≡ 0 → IsOpen book asked k around → p ≡ begins book around + start book k i
      → ReachedAt book asked (due d k i around) p
  unfolding address
  due_here k i around e does front o a = record { reached = a_step e does o; its_address = omega (arith, front) }

  moves_keep_address :
      {k i : ℕ} {around : List OpenedBy} {place : Place} (p : ℕ) → MovesTo book k i around place → IsOpen book asked k around
      → p ≡ begins book around + start book k i → ReachedAt book asked place p
  unfolding begins behind_its_start line_length address
  moves_keep_address {k = k} {i = i} {around = around} p (INC_is_a_step e) o a = due_here k i around e does_inc refl o a
  moves_keep_address {k = k} {i = i} {around = around} p (DEC_is_a_step e) o a = due_here k i around e does_dec refl o a
  moves_keep_address {k = k} {i = i} {around = around} p (GO_TO_is_a_step e) o a = due_here k i around e does_go_to refl o a
  moves_keep_address {k = k} {i = i} {around = around} p (REPEAT_looks e) o a = due_here k i around e does_look refl o a
  moves_keep_address p (CALL_enters {c = c} e m) o a = moves_keep_address p m (called e o) (omega (arith, first_start book c))
  moves_keep_address {k = c} {i = j} {around = a_CALL k i ∷ around} p (CALL_goes_on d m) (called e o) a =
      moves_keep_address p m o (omega (arith, end_start book ok c j d, next_start book k i e))
  moves_keep_address {k = c} {i = j} {around = a_REPEAT k i ∷ around} p (REPEAT_goes_back d) (repeated e o) a =
      record { reached = a_step e does_go_back o; its_address = omega (arith, end_start book ok c j d) }
  moves_keep_address {i = i} p (asked_is_at_its_end d) the_asked a =
      record { reached = the_end; its_address = omega (arith, end_start book ok asked i d) }

  pub settle_keeps_address :
      {p : ℕ} (k i : ℕ) (around : List OpenedBy) → IsOpen book asked k around → p ≡ begins book around + start book k i
      → ReachedAt book asked (settle book k i around) p
  settle_keeps_address {p} k i around o a = moves_keep_address p (settle_is_moved_to book ok k i around) o a
