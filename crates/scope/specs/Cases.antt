-- What a case of the samples has, what the definitions say of it, and the short forms in which the table of samples is written.
-- Expectations are typed, `worked_out` recomputes them from book, routine, registers and budget alone. Assumes nothing.
use Rattle.std.specs.Prelude.{ℕ, zero, suc, ◌+◌, ◌-◌, ◌*◌, ◌/◌, ◌%◌, List, [], ◌∷◌, ◌++◌, map, length}
use Prim.Native.String.{String}
use Rattle.scope.specs.Words.{◌below◌, if, listed}
use Rattle.scope.specs.Refusals.{NOT_STEADY, QUOTE, Answer, refused, accepted, refusal}
use Rattle.scope.specs.Book.{two_bytes, two_bytes_each, book_of}
use Rattle.scope.specs.Steps.{register_count, Registers, with_value, Outcome}
use Rattle.scope.specs.Nested.{nested_run}
use Rattle.scope.specs.Flattening.{flatten_call}
use Rattle.scope.specs.Running.{Ran, run_call}
use Rattle.scope.specs.Quote.{quote_answer}
use Rattle.scope.specs.Shop.{ascii, shop_prints}

infixl 60 ◌but_R◌holds◌
-- ---- what a case has

-- What the nested reading says: outcome, steps and registers. It knows no flat line.
pub record Reading : Type 0 where
  pub outcome : Outcome
  pub steps : ℕ
  pub registers : Registers

pub record Sample : Type 0 where
  pub book : List ℕ
  pub routine : ℕ
  pub registers : Registers
  pub budget : ℕ
  -- the flat length, or the refusal
  pub flat_length : Answer ℕ
  -- the bytes of the flat book
  pub flat : List ℕ
  -- the flat book, run from line 0: outcome, steps, line, and the registers that it leaves
  pub run : Answer Ran
  pub left : Registers
  -- the book as written
  pub nested : Reading
  pub quote : Answer ℕ
  pub printed : List ℕ

-- ---- what the definitions say of a case

-- the bytes of a budget, eight of them, low byte first
unfoldable pub low_bytes : ℕ → ℕ → List ℕ
low_bytes zero n = []
low_bytes (suc k) n = n % 256 ∷ low_bytes k (n / 256)

unfoldable pub standard_input : (book : List ℕ) (routine : ℕ) (registers : Registers) (budget : ℕ) → List ℕ
standard_input book k rs budget = book ++ two_bytes k ++ two_bytes_each rs ++ low_bytes 8 budget

unfoldable pub reading : (book : List ℕ) (routine budget : ℕ) → Registers → Reading
reading book k budget rs =
    let e = nested_run (book_of book) k budget rs in
    record { outcome = e.outcome; steps = e.steps; registers = e.registers }

-- The case again, with every answer worked out from its book, routine, registers and budget. (The output is lent just as long as needed,
-- and the flat book that is run is the one typed in the table.)
unfoldable pub worked_out : Sample → Sample
worked_out s =
    let flattened = flatten_call s.book s.routine (listed (λ i. 0xFF) 0 (length s.flat)) in
    let ran = run_call s.flat 0 s.registers s.budget in
    record {
      book = s.book;
      routine = s.routine;
      registers = s.registers;
      budget = s.budget;
      flat_length = flattened.answer;
      flat = flattened.left;
      run = ran.answer;
      left = ran.left;
      nested = reading s.book s.routine s.budget s.registers;
      quote = quote_answer s.book s.routine;
      printed = shop_prints (standard_input s.book s.routine s.registers s.budget);
    }

-- ---- short forms for the table

-- Bytes in hex as the paper prints them: two digits a byte, parted by spaces and commas.
unfoldable pub without_gaps : List ℕ → List ℕ
without_gaps [] = []
without_gaps (c ∷ cs) = if (c below 48) (without_gaps cs) (c ∷ without_gaps cs)

unfoldable pub hex_digit : ℕ → ℕ
hex_digit c = if (c below 58) (c - 48) (c - 55)

unfoldable pub hex_pairs : List ℕ → List ℕ
hex_pairs [] = []
hex_pairs (c ∷ []) = []
hex_pairs (c ∷ d ∷ cs) = (16 * hex_digit c + hex_digit d) ∷ hex_pairs cs

unfoldable pub hex : String → List ℕ
hex text = hex_pairs (without_gaps (ascii text))

-- 32 registers, all 0, and those that hold something else
unfoldable pub zeros : Registers
zeros = listed (λ i. 0) 0 register_count

unfoldable pub ◌but_R◌holds◌ : Registers → (j v : ℕ) → Registers
rs but_R j holds v = with_value rs j v

-- What the paper tells of a routine that flattens, and of runs of it. The nested reading says the same outcome, steps and registers.
pub record Run : Type 0 where
  pub registers : Registers
  pub budget : ℕ
  pub outcome : Outcome
  pub steps : ℕ
  pub line : ℕ
  pub left : Registers
  pub printed : String

pub record Told : Type 0 where
  pub book : List ℕ
  pub routine : ℕ
  pub flat_length : ℕ
  pub flat : List ℕ
  pub quote : Answer ℕ
  pub runs : List Run

unfoldable pub case_of : Told → Run → Sample
case_of t r =
    record {
      book = t.book;
      routine = t.routine;
      registers = r.registers;
      budget = r.budget;
      flat_length = accepted t.flat_length;
      flat = t.flat;
      run = accepted (record { outcome = r.outcome; steps = r.steps; line = r.line });
      left = r.left;
      nested = record { outcome = r.outcome; steps = r.steps; registers = r.left };
      quote = t.quote;
      printed = ascii r.printed;
    }

unfoldable pub cases_of : List Told → List Sample
cases_of [] = []
cases_of (t ∷ ts) = map (case_of t) t.runs ++ cases_of ts

unfoldable pub not_steady : Answer ℕ
not_steady = refused (refusal NOT_STEADY 0)

unfoldable pub quote_too_high : Answer ℕ
quote_too_high = refused (refusal QUOTE 0)
