-- Document 01, "Steady routines and the quote": which routines are steady, the quote of one, and the call that quotes.
-- The quote is the paper's exact sum; only refusal 19 compares it with a limit. Assumes nothing.
use Rattle.std.specs.Prelude.{ℕ, suc, ◌+◌, ◌-◌, ◌*◌, ◌^◌, Bool, true, false, not, List, [], ◌∷◌}
use Rattle.scope.specs.Words.{◌is◌, ◌above◌, ◌or◌, ◌and◌}
use Rattle.scope.specs.Refusals.{NOT_STEADY, QUOTE, Verdict, pass, refuse_if, ◌otherwise◌, ◌and_then◌, Answer, answer_of}
use Rattle.scope.specs.Book.{Line, INC, DEC, GO_TO, CALL, REPEAT, Book, routine, book_of, used, from_the_lowest_up}
use Rattle.scope.specs.Steps.{top}
use Rattle.scope.specs.Flattening.{sum_of, flattens_verdict}

-- ---- named

-- .. named (by INC, DEC or REPEAT) ..
unfoldable pub names : (register : ℕ) → Line → Bool
names j (INC r) = r is j
names j (DEC r t) = r is j
names j (GO_TO t) = false
names j (CALL c) = false
names j (REPEAT r c) = r is j

-- one of the lines is such a line, or uses a routine that has one in it or under it
unfoldable pub some_line : (such : Line → Bool) (in_or_under : ℕ → Bool) → List Line → Bool
some_line such in_or_under [] = false
some_line such in_or_under (l ∷ ls) = such l or used false in_or_under l or some_line such in_or_under ls

-- .. in the repeated routine or in any routine used under it.
module _ (book : Book) where
  unfoldable pub in_or_under_by : (such : Line → Bool) → (ℕ → Bool) → ℕ → Bool
  in_or_under_by such in_or_under k = some_line such in_or_under (routine book k)

  unfoldable pub in_or_under : (such : Line → Bool) → ℕ → Bool
  in_or_under such = from_the_lowest_up false (in_or_under_by such)

  unfoldable pub named : (register k : ℕ) → Bool
  named j = in_or_under (names j)

-- ---- steady

unfoldable pub line_steady : (named : ℕ → ℕ → Bool) (steady : ℕ → Bool) (own_number : ℕ) → Line → Bool
-- .. and a line that calls is steady if the routine is.
line_steady named steady i (CALL c) = steady c
-- A DEC or GO TO line is steady if its target is above its own number.
line_steady named steady i (DEC r t) = t above i
line_steady named steady i (GO_TO t) = t above i
-- A REPEAT line also needs that its register is not named (by INC, DEC or REPEAT) in the repeated routine or in any routine used under it.
line_steady named steady i (REPEAT r c) = steady c and not (named r c)
-- INC is always steady.
line_steady named steady i (INC r) = true

-- A routine is steady if its lines are, .. (here: from line i on)
unfoldable pub lines_steady : (named : ℕ → ℕ → Bool) (steady : ℕ → Bool) (i : ℕ) → List Line → Bool
lines_steady named steady i [] = true
lines_steady named steady i (l ∷ ls) = line_steady named steady i l and lines_steady named steady (suc i) ls

module _ (book : Book) where
  unfoldable pub steady_by : (named : ℕ → ℕ → Bool) → (ℕ → Bool) → ℕ → Bool
  steady_by named steady k = lines_steady named steady 0 (routine book k)

  unfoldable pub steady : ℕ → Bool
  steady = from_the_lowest_up true (steady_by (named book))

-- ---- the quote

-- The quote: INC, DEC, GO TO 1; CALL the routine's quote; REPEAT 65,535 x (quote + 2) + 1; ..
unfoldable pub line_quote : (quote : ℕ → ℕ) → Line → ℕ
line_quote quote (INC r) = 1
line_quote quote (DEC r t) = 1
line_quote quote (GO_TO t) = 1
line_quote quote (CALL c) = quote c
line_quote quote (REPEAT r c) = top * (quote c + 2) + 1

-- .. a routine the sum of its lines.
module _ (book : Book) where
  unfoldable pub quote_by : (ℕ → ℕ) → ℕ → ℕ
  quote_by quote k = sum_of (line_quote quote) (routine book k)

  unfoldable pub quote : ℕ → ℕ
  quote = from_the_lowest_up 0 quote_by

-- ---- quoting one routine

abbrev pub most_quote : ℕ
most_quote = 2 ^ 64 - 1

-- Then: .. quote 12, 11, 13, 18, 19. 18 NOT STEADY: the routine is not steady. 19 QUOTE: quote above 2^64-1.
unfoldable pub quote_verdict : (b : List ℕ) (routine : ℕ) → Verdict
quote_verdict b k =
    flattens_verdict b k and_then
    refuse_if (not (steady (book_of b) k)) NOT_STEADY 0 otherwise
    refuse_if (quote (book_of b) k above most_quote) QUOTE 0 otherwise
    pass

unfoldable pub quote_answer : (b : List ℕ) (routine : ℕ) → Answer ℕ
quote_answer b k = answer_of (quote_verdict b k) (quote (book_of b) k)
