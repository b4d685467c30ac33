-- Document 01, "The shop's program and the page": from the bytes of standard input to the bytes that the program prints.
-- Texts are their ASCII codes, numbers are decimal with no zeros in front. Assumes nothing.
use Rattle.std.specs.Prelude.{ℕ, zero, suc, ◌+◌, ◌-◌, ◌*◌, ◌/◌, ◌%◌, List, [], ◌∷◌, ◌++◌, length, take, drop}
use Prim.Native.Char.{code}
use Prim.Native.String.{String}
use Rattle.scope.specs.Words.{◌above◌, ◌below◌}
use Rattle.scope.specs.Refusals.{SHORT, LENGTH, number, Refusal, Verdict, pass, refuse, refuse_if, ◌otherwise◌}
use Rattle.scope.specs.Book.{two_byte, book_of}
use Rattle.scope.specs.Steps.{Registers, Outcome, FINISHED, OUT_OF_STEPS, FULL, End}
use Rattle.scope.specs.Flattening.{flat_program, flattens_verdict}
use Rattle.scope.specs.Running.{flat_run}
use Rattle.scope.specs.Page.{registers_length, registers_of}

-- ---- what is read

-- The program reads standard input: a book and then 74 bytes (routine, 32 registers, two bytes each; budget, eight bytes; low byte first).
abbrev pub trailer_length : ℕ
trailer_length = 74

-- the last 74 bytes are the trailer, whatever the header says
unfoldable pub book_read : List ℕ → List ℕ
book_read input = take (length input - trailer_length) input

unfoldable pub trailer_read : List ℕ → List ℕ
trailer_read input = drop (length input - trailer_length) input

unfoldable pub routine_read : List ℕ → ℕ
routine_read input = two_byte (trailer_read input) 0

unfoldable pub registers_read : List ℕ → Registers
registers_read input = registers_of (take registers_length (drop 2 (trailer_read input)))

unfoldable pub low_byte_first : List ℕ → ℕ
low_byte_first [] = 0
low_byte_first (x ∷ xs) = x + 256 * low_byte_first xs

unfoldable pub budget_read : List ℕ → ℕ
budget_read input = low_byte_first (drop (2 + registers_length) (trailer_read input))

-- ---- how a line is printed

unfoldable pub ascii : String → List ℕ
ascii String.[] = []
ascii (String.◌∷◌ c cs) = code c ∷ ascii cs

-- the code of the last decimal digit of n
unfoldable pub last_digit : ℕ → ℕ
last_digit n = 48 + n % 10

-- the decimal digits of n, none for 0; the bound is at least their number
unfoldable pub decimal_digits : (bound n : ℕ) → List ℕ
decimal_digits zero n = []
decimal_digits (suc bound) zero = []
decimal_digits (suc bound) (suc n) = decimal_digits bound (suc n / 10) ++ (last_digit (suc n) ∷ [])

unfoldable pub decimal : ℕ → List ℕ
decimal n = decimal_digits n (n / 10) ++ (last_digit n ∷ [])

-- Fields are parted by one space, every line ends in byte 10 ..
unfoldable pub print_line : List (List ℕ) → List ℕ
print_line [] = 10 ∷ []
print_line (f ∷ []) = f ++ (10 ∷ [])
print_line (f ∷ g ∷ fs) = f ++ (32 ∷ print_line (g ∷ fs))

-- .. and outcomes print under their names above. A FULL line has the register as its last number, so C at budget 3 gives "FULL 2 2 3" and
-- then "R3 65535".
unfoldable pub outcome_line : Outcome → (steps line : ℕ) → List ℕ
outcome_line FINISHED s l = print_line (ascii "FINISHED" ∷ decimal s ∷ decimal l ∷ [])
outcome_line OUT_OF_STEPS s l = print_line (ascii "OUT OF STEPS" ∷ decimal s ∷ decimal l ∷ [])
outcome_line (FULL r) s l = print_line (ascii "FULL" ∷ decimal s ∷ decimal l ∷ decimal r ∷ [])

-- .. then one line for each register that isn't 0, in order: R with its number, then its value.
unfoldable pub register_line : (j its_value : ℕ) → List ℕ
register_line j zero = []
register_line j (suc v) = print_line ((ascii "R" ++ decimal j) ∷ decimal (suc v) ∷ [])

unfoldable pub register_lines : (j : ℕ) → Registers → List ℕ
register_lines j [] = []
register_lines j (v ∷ vs) = register_line j v ++ register_lines (suc j) vs

-- what is printed of a run
unfoldable pub print_run : End ℕ → List ℕ
print_run e = outcome_line e.outcome e.steps e.place ++ register_lines 0 e.registers

-- A refusal prints REFUSED, number, place.
unfoldable pub print_refusal : Refusal → List ℕ
print_refusal x = print_line (ascii "REFUSED" ∷ decimal (number x.name) ∷ decimal x.place ∷ [])

-- ---- the program

-- Under 74 bytes prints "REFUSED 1 0"; over 16,598 prints "REFUSED 5 0"; both before any other check.
abbrev pub most_input : ℕ
most_input = 16598

unfoldable pub shop_verdict : List ℕ → Verdict
shop_verdict input =
    refuse_if (length input below trailer_length) SHORT 0 otherwise
    refuse_if (length input above most_input) LENGTH 0 otherwise
    flattens_verdict (book_read input) (routine_read input)

-- It flattens, runs from line 0 and prints outcome, steps and line, then one line for each register that isn't 0 ..
unfoldable pub shop_run : List ℕ → End ℕ
shop_run input = flat_run (flat_program (book_of (book_read input)) (routine_read input)) 0 (budget_read input) (registers_read input)

unfoldable pub shop_prints_by : Verdict → End ℕ → List ℕ
shop_prints_by pass e = print_run e
shop_prints_by (refuse x) e = print_refusal x

unfoldable pub shop_prints : List ℕ → List ℕ
shop_prints input = shop_prints_by (shop_verdict input) (shop_run input)
