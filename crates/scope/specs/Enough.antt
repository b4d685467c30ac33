-- The words of the law that the quote is enough: ending by itself, and a class of routines wider than the steady ones, for which it holds
-- too: a REPEAT's register may be named in or under the repeated routine, if only no INC there raises it. Assumes nothing.
use Rattle.std.specs.Prelude.{ℕ, ◌≤◌, Bool, true, false, ◌≡◌}
use Rattle.scope.specs.Words.{◌is◌}
use Rattle.scope.specs.Refusals.{Call}
use Rattle.scope.specs.Book.{Line, INC, DEC, GO_TO, CALL, REPEAT, Book, from_the_lowest_up}
use Rattle.scope.specs.Steps.{Registers, ByItself, End}
use Rattle.scope.specs.Nested.{nested_run}
use Rattle.scope.specs.Flattening.{flat_program}
use Rattle.scope.specs.Running.{Ran, flat_run}
use Rattle.scope.specs.Quote.{in_or_under, steady_by, quote}
use Rattle.scope.specs.Transitions.{run_answering}
use Rattle.scope.specs.SteadyWords.{FoundInOrUnder}

-- INC raises its register, and no other line does.
unfoldable pub raises : (register : ℕ) → Line → Bool
raises j (INC r) = r is j
raises j (DEC r t) = false
raises j (GO_TO t) = false
raises j (CALL c) = false
raises j (REPEAT r c) = false

module _ (book : Book) where
  -- raised by INC in routine k or in any routine used under it
  unfoldable pub raised : (register k : ℕ) → Bool
  raised j = in_or_under book (raises j)

  -- steady, but that a REPEAT line needs only that its register is not raised in or under the repeated routine
  unfoldable pub steady_where_not_raised : ℕ → Bool
  steady_where_not_raised = from_the_lowest_up true (steady_by book raised)

-- "Raised" in plain words.
pub data Raises (register : ℕ) : Line → Type 0 where
  INC_raises : Raises register (INC register)

unfoldable pub Raised : (book : Book) (register k : ℕ) → Type 0
Raised book j k = FoundInOrUnder book (Raises j) k

-- It ended by itself, after at most so many steps.
pub record EndsWithin {P : Type 0} (most : ℕ) (e : End P) : Type 0 where
  pub by_itself : ByItself e.outcome
  pub within : e.steps ≤ most

-- The nested run and the flat run from line 0 both end by themselves within the quote's steps.
pub record QuoteIsEnough (book : Book) (k budget : ℕ) (rs : Registers) : Type 0 where
  pub nested : EndsWithin (quote book k) (nested_run book k budget rs)
  pub flat : EndsWithin (quote book k) (flat_run (flat_program book k) 0 budget rs)

-- The call is accepted, and answers a run that ended by itself after at most so many steps.
pub record AnswersWithin (most : ℕ) (c : Call Ran Registers) : Type 0 where
  pub end : End ℕ
  pub answers : c ≡ run_answering end
  pub ends : EndsWithin most end
