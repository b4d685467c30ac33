-- Document 01, "The shop's program and the page": what the page in C gets from flattening, running and the quote, field by field.
-- The refusal's number is 0 where the call is accepted. Where it is refused, the fields of its values are 0. Assumes nothing.
use Rattle.std.specs.Prelude.{ℕ, ◌*◌, List, length}
use Rattle.scope.specs.Words.{◌is_not◌, listed}
use Rattle.scope.specs.Refusals.{number, Answer, refused, accepted, Call, call_of}
use Rattle.scope.specs.Book.{two_byte, two_bytes_each}
use Rattle.scope.specs.Steps.{register_count, Registers, Outcome, FINISHED, OUT_OF_STEPS, FULL}
use Rattle.scope.specs.Flattening.{flatten_call}
use Rattle.scope.specs.Running.{Ran, flat_run, program_of, run_verdict, ran}
use Rattle.scope.specs.Quote.{quote_answer}

-- The page is written in C and calls flattening, running and the quote with byte slices and numbers. How an answer, with its refusal number
-- and place, is laid out for C is the team's to choose and is written down in docs/; apart from the answer's own bytes a refusal writes
-- nothing there either. (Of a call that is lent bytes to write in, the page gets the answer's fields and what then stands in those bytes.)
pub record PageCall (F : Type 0) : Type 0 where
  pub fields : F
  pub left : List ℕ

-- ---- flattening

pub record FlattenFields : Type 0 where
  pub refusal : ℕ
  pub place : ℕ
  pub lines : ℕ

unfoldable pub flatten_fields : Answer ℕ → FlattenFields
flatten_fields (refused x) = record { refusal = number x.name; place = x.place; lines = 0 }
flatten_fields (accepted n) = record { refusal = 0; place = 0; lines = n }

unfoldable pub page_flatten : (b : List ℕ) (routine : ℕ) (out : List ℕ) → PageCall FlattenFields
page_flatten b k out =
    let c = flatten_call b k out in
    record { fields = flatten_fields c.answer; left = c.left }

-- ---- running

-- There the registers are 64 bytes, two for each, low byte first; any other length is 16.
abbrev pub registers_length : ℕ
registers_length = 64

unfoldable pub registers_of : List ℕ → Registers
registers_of bytes = listed (λ j. two_byte bytes (2 * j)) 0 register_count

pub record RunFields : Type 0 where
  pub refusal : ℕ
  pub place : ℕ
  pub outcome : ℕ
  pub register : ℕ
  pub steps : ℕ
  pub line : ℕ

unfoldable pub outcome_number : Outcome → ℕ
outcome_number FINISHED = 1
outcome_number OUT_OF_STEPS = 2
outcome_number (FULL r) = 3

unfoldable pub full_register : Outcome → ℕ
full_register FINISHED = 0
full_register OUT_OF_STEPS = 0
full_register (FULL r) = r

unfoldable pub run_fields : Answer Ran → RunFields
run_fields (refused x) = record { refusal = number x.name; place = x.place; outcome = 0; register = 0; steps = 0; line = 0 }
run_fields (accepted x) =
    record {
      refusal = 0;
      place = 0;
      outcome = outcome_number x.outcome;
      register = full_register x.outcome;
      steps = x.steps;
      line = x.line;
    }

unfoldable pub page_run_call : (b : List ℕ) (start : ℕ) (registers : List ℕ) (budget : ℕ) → Call Ran (List ℕ)
page_run_call b start bytes budget =
    let e = flat_run (program_of b) start budget (registers_of bytes) in
    call_of (run_verdict b (length bytes is_not registers_length) start) (ran e) (two_bytes_each e.registers) bytes

unfoldable pub page_run : (b : List ℕ) (start : ℕ) (registers : List ℕ) (budget : ℕ) → PageCall RunFields
page_run b start bytes budget =
    let c = page_run_call b start bytes budget in
    record { fields = run_fields c.answer; left = c.left }

-- ---- the quote

pub record QuoteFields : Type 0 where
  pub refusal : ℕ
  pub place : ℕ
  pub quote : ℕ

unfoldable pub quote_fields : Answer ℕ → QuoteFields
quote_fields (refused x) = record { refusal = number x.name; place = x.place; quote = 0 }
quote_fields (accepted q) = record { refusal = 0; place = 0; quote = q }

unfoldable pub page_quote : (b : List ℕ) (routine : ℕ) → QuoteFields
page_quote b k = quote_fields (quote_answer b k)
