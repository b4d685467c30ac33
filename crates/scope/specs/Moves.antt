-- Document 01, "Nested reading": the moves that cost no step as a relation, a rule for each sentence, for a reader who doubts `settle`.
-- From line i of routine k, under the lines that opened the routines around it, the moves lead to this place. Assumes nothing.
use Rattle.std.specs.Prelude.{ℕ, suc, ◌≡◌, List, [], ◌∷◌, drop}
use Rattle.scope.specs.Book.{Line, INC, DEC, GO_TO, CALL, REPEAT, Book, routine}
use Rattle.scope.specs.Nested.{OpenedBy, a_CALL, a_REPEAT, inc, dec, go_to, look, go_back, Place, ended, due}

pub data MovesTo (book : Book) : (k i : ℕ) → List OpenedBy → Place → Type 0 where
  -- INC adds one and goes on. .. one step.
  INC_is_a_step :
      {k i r : ℕ} {around : List OpenedBy} {rest : List Line} → drop i (routine book k) ≡ INC r ∷ rest
      → MovesTo book k i around (due (inc r) k i around)
  -- DEC .. takes one off .. or .. goes to the target. .. one step.
  DEC_is_a_step :
      {k i r t : ℕ} {around : List OpenedBy} {rest : List Line} → drop i (routine book k) ≡ DEC r t ∷ rest
      → MovesTo book k i around (due (dec r t) k i around)
  -- GO TO goes to the target. .. one step.
  GO_TO_is_a_step :
      {k i t : ℕ} {around : List OpenedBy} {rest : List Line} → drop i (routine book k) ≡ GO_TO t ∷ rest
      → MovesTo book k i around (due (go_to t) k i around)
  -- REPEAT looks at its register: .. one step, ..
  REPEAT_looks :
      {k i r c : ℕ} {around : List OpenedBy} {rest : List Line} → drop i (routine book k) ≡ REPEAT r c ∷ rest
      → MovesTo book k i around (due (look r c) k i around)
  -- CALL runs the routine ..; entering .. cost[s] no step.
  CALL_enters :
      {k i c : ℕ} {around : List OpenedBy} {rest : List Line} {place : Place} → drop i (routine book k) ≡ CALL c ∷ rest
      → MovesTo book c 0 (a_CALL k i ∷ around) place → MovesTo book k i around place
  -- .. and goes on after it; .. leaving cost[s] no step.
  CALL_goes_on :
      {c j k i : ℕ} {around : List OpenedBy} {place : Place} → drop j (routine book c) ≡ [] → MovesTo book k (suc i) around place
      → MovesTo book c j (a_CALL k i ∷ around) place
  -- REPEAT .. runs the routine, goes back (one step) ..
  REPEAT_goes_back :
      {c j k i : ℕ} {around : List OpenedBy} → drop j (routine book c) ≡ []
      → MovesTo book c j (a_REPEAT k i ∷ around) (due (go_back c) k i around)
  -- .. where the asked routine is at its end, the run is FINISHED ..
  asked_is_at_its_end : {k i : ℕ} → drop i (routine book k) ≡ [] → MovesTo book k i [] ended
