-- Document 01, "Nested reading": the book as the mill wrote it, one routine using another. It is defined without the flat program.
-- A place is a step that is due, at a line of a routine, under the lines that opened the routines around it. Assumes nothing.
use Rattle.std.specs.Prelude.{ℕ, suc, List, [], ◌∷◌, drop}
use Rattle.scope.specs.Book.{Line, INC, DEC, GO_TO, CALL, REPEAT, Book, routine, from_the_lowest_up}
use Rattle.scope.specs.Steps.{Registers, Next, at_the_end, goes_to, adds_one, takes_one_off, End, run_from}

-- An open routine was opened by line i of routine k, a CALL or a REPEAT.
pub data OpenedBy : Type 0 where
  a_CALL a_REPEAT : (k i : ℕ) → OpenedBy

-- A step that is due. REPEAT has two: to look at its register, and to go back after the routine.
pub data Step : Type 0 where
  inc : (register : ℕ) → Step
  dec : (register target : ℕ) → Step
  go_to : (target : ℕ) → Step
  look : (register routine : ℕ) → Step
  go_back : (routine : ℕ) → Step

-- Where a run stands once the moves that cost no step are made: the asked routine is at its end, or a step is due at line i of routine k.
pub data Place : Type 0 where
  ended : Place
  due : Step → (k i : ℕ) → List OpenedBy → Place

-- ---- moves that cost no step: CALL runs the routine and goes on after it; entering and leaving cost no step.

-- From line i of routine k on, whose lines from there are given: the first step that is due, or `after` where none is before its end.
unfoldable pub come_to : (enter : ℕ → List OpenedBy → Place → Place) (k i : ℕ) → List Line → List OpenedBy → Place → Place
come_to enter k i [] around after = after
come_to enter k i (INC r ∷ ls) around after = due (inc r) k i around
come_to enter k i (DEC r t ∷ ls) around after = due (dec r t) k i around
come_to enter k i (GO_TO t ∷ ls) around after = due (go_to t) k i around
come_to enter k i (CALL c ∷ ls) around after = enter c (a_CALL k i ∷ around) (come_to enter k (suc i) ls around after)
come_to enter k i (REPEAT r c ∷ ls) around after = due (look r c) k i around

module _ (book : Book) where
  -- Entering a routine: its first line.
  unfoldable pub enter_by : (ℕ → List OpenedBy → Place → Place) → ℕ → List OpenedBy → Place → Place
  enter_by enter k around after = come_to enter k 0 (routine book k) around after

  unfoldable pub enter : ℕ → List OpenedBy → Place → Place
  enter = from_the_lowest_up (λ around after. after) enter_by

  -- Leaving routine c: after a CALL it goes on with the next line, after REPEAT's routine the way back is due, and where nothing is around it
  -- the asked routine is at its end.
  unfoldable pub leave : (c : ℕ) → List OpenedBy → Place
  leave c [] = ended
  leave c (a_CALL k i ∷ around) = come_to enter k (suc i) (drop (suc i) (routine book k)) around (leave k around)
  leave c (a_REPEAT k i ∷ around) = due (go_back c) k i around

  -- Moves that cost no step are made first.
  unfoldable pub settle : (k i : ℕ) → List OpenedBy → Place
  settle k i around = come_to enter k i (drop i (routine book k)) around (leave k around)

  -- ---- steps

  unfoldable pub nested_step : Step → (k i : ℕ) → List OpenedBy → Registers → Next Place
  -- INC adds one and goes on.
  nested_step (inc r) k i around rs = adds_one r rs (settle k (suc i) around)
  -- DEC on a register above 0 takes one off and goes on; on 0 it goes to the target.
  nested_step (dec r t) k i around rs = takes_one_off r rs (settle k (suc i) around) (settle k t around)
  -- GO TO goes to the target. Each of these is one step.
  nested_step (go_to t) k i around rs = goes_to (settle k t around) rs
  -- REPEAT looks at its register: at 0, one step, and it goes on; above 0, it takes one off (one step), runs the routine, ..
  nested_step (look r c) k i around rs = takes_one_off r rs (settle c 0 (a_REPEAT k i ∷ around)) (settle k (suc i) around)
  -- .. goes back (one step) and looks again.
  nested_step (go_back c) k i around rs = goes_to (settle k i around) rs

  -- Then, where the asked routine is at its end, the run is FINISHED, whatever budget is left. Else the next step is tested for OUT OF
  -- STEPS and then FULL, as under Running, and is done only if neither holds. Steps done and registers are those reached so far.
  unfoldable pub nested_next : Place → Registers → Next Place
  nested_next ended rs = at_the_end
  nested_next (due d k i around) rs = nested_step d k i around rs

  unfoldable pub nested_run : (asked budget : ℕ) → Registers → End Place
  nested_run asked budget rs = run_from nested_next budget (settle asked 0 []) rs
