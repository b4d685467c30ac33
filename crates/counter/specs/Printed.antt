-- What the counter answers, and words of its private contracts: room for a text, and the parts that lines are made of.
-- Assumes nothing.
use Rattle.std.specs.Prelude.{ℕ, ◌+◌, ◌≤◌, List, [], ◌∷◌, ◌++◌, length}
use Rattle.scope.specs.Refusals.{Answer, refused, accepted, Call}
use Rattle.scope.specs.Steps.{Registers}
use Rattle.scope.specs.Flattening.{at_the_front_of}
use Rattle.scope.specs.Running.{Ran, run_call}
use Rattle.scope.specs.Shop.{registers_read, budget_read, decimal, outcome_line, register_lines, print_refusal, shop_prints}
use Rattle.counter.specs.declared.TheConstants.{LONGEST_ANSWER}

-- ---- the answer

-- How many bytes are printed, and what is left in the output: they stand at its front, and bytes behind them stay.
pub record Answered : Type 0 where
  pub count : ℕ
  pub left : List ℕ

unfoldable pub counter_answers : (input out : List ℕ) → Answered
counter_answers input out = record { count = length (shop_prints input); left = at_the_front_of out (shop_prints input) }

-- The bytes of the longest answer: OUT OF STEPS, 20 digits of steps, 4 of the line, then 32 registers of 5 digits.
abbrev pub longest_answer : ℕ
longest_answer = 349

-- behind what is printed there is room for a text
abbrev pub Room : (text printed : List ℕ) → Type 0
Room text printed = length printed + length text ≤ LONGEST_ANSWER

-- ---- what lines are made of

-- a number, and the byte that stands behind it
unfoldable pub number_and : (n behind : ℕ) → List ℕ
number_and n behind = decimal n ++ (behind ∷ [])

-- two numbers, parted by a space
unfoldable pub two_numbers : (n m behind : ℕ) → List ℕ
two_numbers n m behind = number_and n 32 ++ number_and m behind

-- a word, with the space behind it where it has one, and two numbers: every line begins so
unfoldable pub word_and_two : (word : List ℕ) (n m behind : ℕ) → List ℕ
word_and_two word n m behind = word ++ two_numbers n m behind

-- ---- a run

-- what is printed of its answer, with what it left in the registers
unfoldable pub print_answer : Answer Ran → Registers → List ℕ
print_answer (refused x) rs = print_refusal x
print_answer (accepted a) rs = outcome_line a.outcome a.steps a.line ++ register_lines 0 rs

unfoldable pub print_call : Call Ran Registers → List ℕ
print_call c = print_answer c.answer c.left

-- of a flat book from line 0, with the registers and the budget that are read behind the book
unfoldable pub print_run_of : (flat input : List ℕ) → List ℕ
print_run_of flat input = print_call (run_call flat 0 (registers_read input) (budget_read input))
