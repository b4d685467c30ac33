-- Each number of refusal but 11 is given by some call: sample A with other bytes, small books, or a wrong question.
-- (13 is sample H's.) Both columns are worked out; the right one is typed from document 01's table and "Order". Assumes nothing.
use Prim.Native.Nat.{ℕ}
use Prim.Native.String.{String}
use mathlib.Core.Bool.{true, false}
use mathlib.Core.Path.{◌≡◌, refl}
use mathlib.Core.List.{List, [], ◌∷◌, ◌++◌, map}
use Rattle.scope.specs.Refusals.{Name, number, SHORT, FORMAT, COUNTS, OFFSETS, LENGTH, ROUTINE, KIND, REGISTER, TARGET, CALLEE, DEPTH, NO_ROUTINE, TOO_LONG, NO_ROOM, NOT_FLAT, REGISTERS, LINE, NOT_STEADY, QUOTE, Verdict, pass, refuse, refusal}
use Rattle.scope.specs.Words.{listed}
use Rattle.scope.specs.Book.{book_verdict, read_verdict}
use Rattle.scope.specs.Flattening.{flatten_verdict}
use Rattle.scope.specs.Running.{run_verdict, bench_verdict}
use Rattle.scope.specs.Quote.{quote_verdict}
use Rattle.scope.specs.Shop.{shop_verdict}
use Rattle.scope.specs.Cases.{hex, zeros, standard_input}
use Rattle.scope.specs.Samples.{sample_A, sample_F, book_I}
use Rattle.scope.proofs.Computed.{computed}

infix 15 ◌gives◌at◌
record Row : Type 0 where
  verdict : Verdict
  expected : Verdict

abbrev ◌gives◌at◌ : Verdict → Name → ℕ → Row
v gives n at p = record { verdict = v; expected = refuse (refusal n p) }

abbrev passes : Verdict → Row
passes v = record { verdict = v; expected = pass }

-- sample A with other bytes: its header, its routine table, its lines
abbrev checked : String → String → String → Verdict
checked header table lines = book_verdict (hex header ++ hex table ++ hex lines)

abbrev header_A : String
header_A = "01 00 02 00 02 00 0C 00 14 00 1C 00"

abbrev table_A : String
table_A = "00 00 01 00, 01 00 01 00"

abbrev lines_A : String
lines_A = "01 01 00 00, 05 00 00 00"

-- 1 to 6, the book itself
book_rows : List Row
book_rows =
    (checked "01 00 02 00 02 00 0C 00 14 00 1C" "" "" gives SHORT at 0)
    ∷ (checked "02 00 02 00 02 00 0C 00 14 00 1C 00" table_A lines_A gives FORMAT at 0)
    ∷ (checked "01 00 00 00 02 00 0C 00 14 00 1C 00" table_A lines_A gives COUNTS at 0)
    ∷ (checked "01 00 21 00 02 00 0C 00 14 00 1C 00" table_A lines_A gives COUNTS at 0)
    ∷ (checked "01 00 02 00 01 10 0C 00 14 00 1C 00" table_A lines_A gives COUNTS at 0)
    ∷ (checked "01 00 02 00 02 00 0D 00 14 00 1C 00" table_A lines_A gives OFFSETS at 0)
    ∷ (checked "01 00 02 00 02 00 0C 00 15 00 1C 00" table_A lines_A gives OFFSETS at 0)
    ∷ (checked "01 00 02 00 02 00 0C 00 14 00 1D 00" table_A lines_A gives OFFSETS at 0)
    ∷ (checked header_A table_A "01 01 00 00, 05 00 00" gives LENGTH at 0)
    ∷ (checked header_A table_A "01 01 00 00, 05 00 00 00, 00" gives LENGTH at 0)
    ∷ (checked header_A "01 00 01 00, 01 00 01 00" lines_A gives ROUTINE at 0)
    ∷ (checked header_A "00 00 01 00, 02 00 01 00" lines_A gives ROUTINE at 1)
    ∷ (checked header_A "00 00 01 00, 01 00 02 00" lines_A gives ROUTINE at 1)
    ∷ (checked header_A "00 00 0A 00, 0A 00 00 00" lines_A gives ROUTINE at 1)
    ∷ []

-- 7 to 10, the lines; of two bad lines the lower is named, and in a line the lower number
line_rows : List Row
line_rows =
    (checked header_A table_A "01 01 00 00, 00 00 00 00" gives KIND at 1)
    ∷ (checked header_A table_A "01 01 00 00, 06 00 00 00" gives KIND at 1)
    ∷ (checked header_A table_A "01 20 00 00, 05 00 00 00" gives REGISTER at 0)
    ∷ (checked header_A table_A "01 01 00 00, 05 20 00 00" gives REGISTER at 1)
    ∷ (checked header_A table_A "01 01 00 00, 03 01 00 00" gives REGISTER at 1)
    ∷ (checked header_A table_A "01 01 00 00, 04 01 00 00" gives REGISTER at 1)
    ∷ (checked header_A table_A "01 01 01 00, 05 00 00 00" gives TARGET at 0)
    ∷ (checked header_A table_A "02 01 02 00, 05 00 00 00" gives TARGET at 0)
    ∷ (checked header_A table_A "03 00 02 00, 05 00 00 00" gives TARGET at 0)
    ∷ passes (checked header_A table_A "02 1F 01 00, 03 00 01 00")
    ∷ (checked header_A table_A "01 01 00 00, 05 00 01 00" gives CALLEE at 1)
    ∷ (checked header_A table_A "04 00 00 00, 05 00 00 00" gives CALLEE at 0)
    ∷ (checked header_A table_A "01 20 01 00, 06 00 00 00" gives REGISTER at 0)
    ∷ (checked header_A table_A "01 01 00 00, 06 FF FF FF" gives KIND at 1)
    ∷ []

-- 12 to 19
call_rows : List Row
call_rows =
    (read_verdict sample_A.book 2 0 gives NO_ROUTINE at 0)
    ∷ (read_verdict sample_A.book 1 1 gives LINE at 0)
    ∷ (flatten_verdict sample_A.book 2 0 gives NO_ROUTINE at 0)
    ∷ (flatten_verdict sample_A.book 1 27 gives NO_ROOM at 0)
    ∷ (run_verdict sample_A.book true 9 gives NOT_FLAT at 0)
    ∷ (run_verdict sample_A.flat true 9 gives REGISTERS at 0)
    ∷ (run_verdict sample_A.flat false 4 gives LINE at 0)
    ∷ (bench_verdict sample_A.book 9 gives NOT_FLAT at 0)
    ∷ (bench_verdict sample_A.flat 4 gives LINE at 0)
    ∷ (quote_verdict sample_A.book 65536 gives NO_ROUTINE at 0)
    ∷ (quote_verdict sample_F.book 0 gives NOT_STEADY at 0)
    ∷ (quote_verdict book_I 4 gives QUOTE at 0)
    ∷ (shop_verdict (standard_input [] 0 zeros 0) gives SHORT at 0)
    ∷ (shop_verdict sample_A.book gives SHORT at 0)
    ∷ (shop_verdict (standard_input sample_A.book 2 zeros 0) gives NO_ROUTINE at 0)
    ∷ (shop_verdict (listed (λ i. 0) 0 16599) gives LENGTH at 0)
    ∷ []

-- a book of three routines with a line each, and the quote of the last
abbrev quoted : String → Verdict
quoted lines = quote_verdict (hex "01 00 03 00 03 00 0C 00 18 00 24 00, 00 00 01 00, 01 00 01 00, 02 00 01 00" ++ hex lines) 2

-- 18: a jump to its own line, also one that is called; a REPEAT whose register is named under the repeated routine, by INC or by REPEAT.
-- GO TO and CALL have 0 in the register's byte and name nothing, and a routine that is not used does no harm.
steady_rows : List Row
steady_rows =
    (quoted "01 00 00 00, 01 00 00 00, 02 01 00 00" gives NOT_STEADY at 0)
    ∷ (quoted "02 01 00 00, 04 00 00 00, 04 00 01 00" gives NOT_STEADY at 0)
    ∷ (quoted "01 00 00 00, 04 00 00 00, 05 00 01 00" gives NOT_STEADY at 0)
    ∷ (quoted "01 01 00 00, 05 00 00 00, 05 00 01 00" gives NOT_STEADY at 0)
    ∷ passes (quoted "01 01 00 00, 05 02 00 00, 05 00 01 00")
    ∷ passes (quoted "03 00 01 00, 05 00 00 00, 04 00 01 00")
    ∷ passes (quoted "03 00 00 00, 01 00 00 00, 04 00 01 00")
    ∷ passes (quoted "01 01 00 00, 04 00 00 00, 05 00 01 00")
    ∷ []

abbrev rows : List Row
unfolding book_rows line_rows call_rows steady_rows
rows = book_rows ++ line_rows ++ call_rows ++ steady_rows

refusals_hold : map (λ r. r.verdict) rows ≡ map (λ r. r.expected) rows
unfolding computed book_rows line_rows call_rows steady_rows
refusals_hold = refl

-- The table's numbers go with its names, in its order.
pub numbers_as_in_the_table :
    map number
    (SHORT ∷ FORMAT ∷ COUNTS ∷ OFFSETS ∷ LENGTH ∷ ROUTINE ∷ KIND ∷ REGISTER ∷ TARGET ∷ CALLEE ∷ DEPTH ∷ NO_ROUTINE ∷ TOO_LONG ∷ NO_ROOM
    ∷ NOT_FLAT ∷ REGISTERS ∷ LINE ∷ NOT_STEADY ∷ QUOTE ∷ [])
    ≡ listed (λ i. i) 1 19
unfolding computed
numbers_as_in_the_table = refl
