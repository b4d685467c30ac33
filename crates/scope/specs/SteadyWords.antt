-- Document 01, "Steady routines and the quote": "named" and "steady" in plain words, for a reader who doubts the tests of `Quote`.
-- A rule for each sentence of the paper, and nothing is computed. Assumes nothing.
use Rattle.std.specs.Prelude.{ℕ, ◌<◌, ◌≡◌, List, ◌∷◌, drop}
use Rattle.scope.specs.Book.{Line, INC, DEC, GO_TO, CALL, REPEAT, Book, routine}
use Rattle.scope.specs.Depth.{Opened}

-- ---- named

-- .. named (by INC, DEC or REPEAT) ..
pub data Names (register : ℕ) : Line → Type 0 where
  INC_names : Names register (INC register)
  DEC_names : {t : ℕ} → Names register (DEC register t)
  REPEAT_names : {c : ℕ} → Names register (REPEAT register c)

-- .. in the repeated routine or in any routine used under it. (From routine k on, so many routines are open inside one another, and in the
-- innermost of them such a line stands.)
pub record FoundInOrUnder (book : Book) (Such : Line → Type 0) (k : ℕ) : Type 0 where
  pub how_many : ℕ
  pub found_in : ℕ
  pub opened : Opened book k how_many found_in
  pub at_line : ℕ
  pub line : Line
  pub rest : List Line
  pub stands : drop at_line (routine book found_in) ≡ line ∷ rest
  pub is_such : Such line

-- .. its register is .. named (by INC, DEC or REPEAT) in the repeated routine or in any routine used under it.
unfoldable pub Named : (book : Book) (register k : ℕ) → Type 0
Named book j k = FoundInOrUnder book (Names j) k

-- ---- steady

mutual
  -- A routine is steady if its lines are, ..
  pub data SteadyRoutine (book : Book) : (k : ℕ) → Type 0 where
    its_lines_are :
        {k : ℕ} → ((i : ℕ) (l : Line) (rest : List Line) → drop i (routine book k) ≡ l ∷ rest → SteadyLine book i l)
        → SteadyRoutine book k

  -- A line is steady by its kind and its own number: ..
  pub data SteadyLine (book : Book) : (own_number : ℕ) → Line → Type 0 where
    -- .. and a line that calls is steady if the routine is.
    CALL_steady : {i c : ℕ} → SteadyRoutine book c → SteadyLine book i (CALL c)
    -- A DEC or GO TO line is steady if its target is above its own number.
    DEC_steady : {i r t : ℕ} → i < t → SteadyLine book i (DEC r t)
    GO_TO_steady : {i t : ℕ} → i < t → SteadyLine book i (GO_TO t)
    -- A REPEAT line also needs that its register is not named (by INC, DEC or REPEAT) in the repeated routine or in any routine used
    -- under it.
    REPEAT_steady : {i r c : ℕ} → SteadyRoutine book c → ¬ Named book r c → SteadyLine book i (REPEAT r c)
    -- INC is always steady.
    INC_steady : {i r : ℕ} → SteadyLine book i (INC r)
