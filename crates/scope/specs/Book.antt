-- Document 01, "The book": its bytes, the ordered tests 1 to 10, the book that the bytes say, and reading one line of it.
-- Bytes are a list of numbers below 256. Above this file a book is a list of routines, and a routine a list of lines. Assumes nothing.
use Rattle.std.specs.Prelude.{ℕ, zero, suc, ◌+◌, ◌-◌, ◌*◌, ◌/◌, ◌%◌, ◌<◌, Bool, false, ◌≡◌, List, [], ◌∷◌, ◌++◌, length, get_or, drop}
use Rattle.scope.specs.Words.{◌is◌, ◌is_not◌, ◌above◌, ◌below◌, ◌not_below◌, ◌or◌, if, listed}
use Rattle.scope.specs.Refusals.{SHORT, FORMAT, COUNTS, OFFSETS, LENGTH, ROUTINE, KIND, REGISTER, TARGET, CALLEE, NO_ROUTINE, LINE, Verdict, pass, refuse_if, ◌otherwise◌, ◌and_then◌, first, Answer, answer_of}

-- ---- numbers of the paper

abbrev pub the_format : ℕ
the_format = 1

abbrev pub most_routines : ℕ
most_routines = 32

abbrev pub most_lines : ℕ
most_lines = 4096

abbrev pub header_bytes : ℕ
header_bytes = 12

abbrev pub entry_bytes : ℕ
entry_bytes = 4

abbrev pub line_bytes : ℕ
line_bytes = 4

abbrev pub last_register : ℕ
last_register = 31

-- ---- the header

unfoldable pub byte : List ℕ → ℕ → ℕ
byte b i = get_or b i 0

-- Bytes are numbers below 256. (Tests and answers are said of any list of numbers.)
unfoldable pub Bytes : List ℕ → Type 0
Bytes b = (i : ℕ) → i < length b → byte b i < 256

-- All two-byte numbers have the low byte first.
unfoldable pub two_byte : List ℕ → ℕ → ℕ
two_byte b i = byte b i + 256 * byte b (i + 1)

unfoldable pub two_bytes : ℕ → List ℕ
two_bytes n = n % 256 ∷ n / 256 % 256 ∷ []

unfoldable pub two_bytes_each : List ℕ → List ℕ
two_bytes_each [] = []
two_bytes_each (n ∷ ns) = two_bytes n ++ two_bytes_each ns

-- The header is 12 bytes: format (1), routines R (1 to 32), lines L (0 to 4,096), offset of the routine table (12), offset of the line
-- table (12+4R), length of the book (12+4R+4L).
unfoldable pub format : List ℕ → ℕ
format b = two_byte b 0

unfoldable pub routines : List ℕ → ℕ
routines b = two_byte b 2

unfoldable pub lines : List ℕ → ℕ
lines b = two_byte b 4

unfoldable pub routine_table : List ℕ → ℕ
routine_table b = two_byte b 6

unfoldable pub line_table : List ℕ → ℕ
line_table b = two_byte b 8

unfoldable pub stated_length : List ℕ → ℕ
stated_length b = two_byte b 10

-- 12+4R
unfoldable pub line_table_due : (R : ℕ) → ℕ
line_table_due R = header_bytes + entry_bytes * R

-- 12+4R+4L
unfoldable pub length_due : (R L : ℕ) → ℕ
length_due R L = line_table_due R + line_bytes * L

-- So a book has at most 16,524 bytes.
abbrev pub most_bytes : ℕ
most_bytes = 16524

-- 3 COUNTS: R is 0 or above 32, or L above 4,096
unfoldable pub counts_wrong : (R L : ℕ) → Bool
counts_wrong R L = R is 0 or R above most_routines or L above most_lines

-- 4 OFFSETS: an offset or the stated length is not as above
unfoldable pub offsets_wrong : (R L routine_table line_table stated_length : ℕ) → Bool
offsets_wrong R L rt lt n = rt is_not header_bytes or lt is_not line_table_due R or n is_not length_due R L

-- 1 SHORT: fewer than 12 bytes. 2 FORMAT: format is not 1. 5 LENGTH: the slice is not as long as stated.
unfoldable pub header_test : (size format R L routine_table line_table stated_length : ℕ) → Verdict
header_test size f R L rt lt n =
    refuse_if (size below header_bytes) SHORT 0 otherwise
    refuse_if (f is_not the_format) FORMAT 0 otherwise
    refuse_if (counts_wrong R L) COUNTS 0 otherwise
    refuse_if (offsets_wrong R L rt lt n) OFFSETS 0 otherwise
    refuse_if (size is_not n) LENGTH 0 otherwise
    pass

unfoldable pub header_verdict : List ℕ → Verdict
header_verdict b = header_test (length b) (format b) (routines b) (lines b) (routine_table b) (line_table b) (stated_length b)

-- ---- the routine table

-- Routine table, 4 bytes each: first line, number of lines. A routine may have no lines.
unfoldable pub first_line : List ℕ → ℕ → ℕ
first_line b r = two_byte b (header_bytes + entry_bytes * r)

unfoldable pub count : List ℕ → ℕ → ℕ
count b r = two_byte b (header_bytes + entry_bytes * r + 2)

-- The first routine starts at line 0, each next one where the one before ended, ..
unfoldable pub first_line_due : List ℕ → ℕ → ℕ
first_line_due b zero = 0
first_line_due b (suc r) = first_line b r + count b r

-- 6 ROUTINE: an entry breaks the table rule. Its place is the routine (the lowest whose entry is wrong; ..
unfoldable pub entry_verdict : List ℕ → ℕ → Verdict
entry_verdict b r =
    refuse_if (first_line b r is_not first_line_due b r) ROUTINE r otherwise
    pass

-- .. and the last ends at L. .. the last also if it doesn't end at L).
unfoldable pub table_verdict : List ℕ → Verdict
table_verdict b =
    first (entry_verdict b) (routines b) and_then
    refuse_if (first_line_due b (routines b) is_not lines b) ROUTINE (routines b - 1) otherwise
    pass

-- ---- the lines

-- Line, 4 bytes: kind, register, two-byte operand.
pub record LineFields : Type 0 where
  pub kind : ℕ
  pub register : ℕ
  pub operand : ℕ

-- A register number, a routine's line number and a flat line number are kept apart, as document 000 keeps registers and instruction
-- numbers apart. (A target of a line counts lines of its routine. A flat line number stands only in an instruction of `Ram`.)
pub data Line : Type 0 where
  INC : (register : ℕ) → Line
  DEC : (register target : ℕ) → Line
  GO_TO : (target : ℕ) → Line
  CALL : (routine : ℕ) → Line
  REPEAT : (register routine : ℕ) → Line

abbrev pub INC_kind : ℕ
INC_kind = 1

abbrev pub DEC_kind : ℕ
DEC_kind = 2

abbrev pub GO_TO_kind : ℕ
GO_TO_kind = 3

abbrev pub CALL_kind : ℕ
CALL_kind = 4

abbrev pub REPEAT_kind : ℕ
REPEAT_kind = 5

-- | Kind | Register | Operand |
unfoldable pub fields_of : Line → LineFields
-- | 1 INC | 0 to 31 | 0 |
fields_of (INC r) = record { kind = INC_kind; register = r; operand = 0 }
-- | 2 DEC | 0 to 31 | target |
fields_of (DEC r target) = record { kind = DEC_kind; register = r; operand = target }
-- | 3 GO TO | 0 | target |
fields_of (GO_TO target) = record { kind = GO_TO_kind; register = 0; operand = target }
-- | 4 CALL | 0 | routine |
fields_of (CALL routine) = record { kind = CALL_kind; register = 0; operand = routine }
-- | 5 REPEAT | 0 to 31 | routine |
fields_of (REPEAT r routine) = record { kind = REPEAT_kind; register = r; operand = routine }

-- The same table, read from the kind. (A line that passes 7 has one of the five kinds, so what is left is REPEAT.)
unfoldable pub line_of : LineFields → Line
line_of f =
    if (f.kind is INC_kind) (INC f.register)
    (if (f.kind is DEC_kind) (DEC f.register f.operand)
    (if (f.kind is GO_TO_kind) (GO_TO f.operand)
    (if (f.kind is CALL_kind) (CALL f.operand)
    (REPEAT f.register f.operand))))

-- 7 KIND: kind not 1 to 5
unfoldable pub kind_wrong : (kind : ℕ) → Bool
kind_wrong k = k below INC_kind or k above REPEAT_kind

-- 8 REGISTER: above 31, or not 0 where 0 stands
unfoldable pub register_wrong : (kind register : ℕ) → Bool
register_wrong k r = if (k is GO_TO_kind or k is CALL_kind) (r is_not 0) (r above last_register)

-- A target is a line of the same routine, counted from 0 in that routine; its number of lines is allowed and means the routine's end.
-- 9 TARGET: target past the end, or INC's operand not 0
unfoldable pub target_wrong : (kind operand own_count : ℕ) → Bool
target_wrong k o n = if (k is INC_kind) (o is_not 0) (if (k is DEC_kind or k is GO_TO_kind) (o above n) false)

-- CALL and REPEAT name only a routine with a number below their own.
-- 10 CALLEE: routine not below its own
unfoldable pub callee_wrong : (kind operand own_routine : ℕ) → Bool
callee_wrong k o r = if (k is CALL_kind or k is REPEAT_kind) (o not_below r) false

-- .. each tested 7, 8, 9, 10; ..
unfoldable pub line_test : (kind register operand own_routine own_count place : ℕ) → Verdict
line_test k g o r n p =
    refuse_if (kind_wrong k) KIND p otherwise
    refuse_if (register_wrong k g) REGISTER p otherwise
    refuse_if (target_wrong k o n) TARGET p otherwise
    refuse_if (callee_wrong k o r) CALLEE p otherwise
    pass

-- where line i stands, counted over the whole book, and what stands there
unfoldable pub line_offset : List ℕ → ℕ → ℕ
line_offset b i = line_table_due (routines b) + line_bytes * i

unfoldable pub fields_at : List ℕ → ℕ → LineFields
fields_at b i =
    record {
      kind = byte b (line_offset b i);
      register = byte b (line_offset b i + 1);
      operand = two_byte b (line_offset b i + 2);
    }

-- line j of routine r, counted inside it, as a line of the whole book, and what stands there
unfoldable pub line_number : List ℕ → ℕ → ℕ → ℕ
line_number b r j = first_line b r + j

unfoldable pub fields_in : List ℕ → ℕ → ℕ → LineFields
fields_in b r j = fields_at b (line_number b r j)

-- Its place is .. the line counted over the whole book for 7 to 10.
unfoldable pub line_verdict : List ℕ → ℕ → ℕ → Verdict
line_verdict b r j =
    line_test (fields_in b r j).kind (fields_in b r j).register (fields_in b r j).operand r (count b r) (line_number b r j)

-- .. the lowest bad line is the one named, found routine by routine.
unfoldable pub routine_verdict : List ℕ → ℕ → Verdict
routine_verdict b r = first (line_verdict b r) (count b r)

unfoldable pub lines_verdict : List ℕ → Verdict
lines_verdict b = first (routine_verdict b) (routines b)

-- ---- the book

-- Order: 1 to 6, then the lines from the first, ..
unfoldable pub book_verdict : List ℕ → Verdict
book_verdict b = header_verdict b and_then table_verdict b and_then lines_verdict b

-- A book is taken if nothing of 1 to 10 is wrong with it.
abbrev pub Taken : List ℕ → Type 0
Taken b = book_verdict b ≡ pass

abbrev pub Book : Type 0
Book = List (List Line)

-- the lines of routine k
unfoldable pub routine : Book → ℕ → List Line
routine book k = get_or book k []

-- the book that the bytes say
unfoldable pub routine_of : List ℕ → ℕ → List Line
routine_of b r = listed (λ j. line_of (fields_in b r j)) 0 (count b r)

unfoldable pub book_of : List ℕ → Book
book_of b = listed (routine_of b) 0 (routines b)

-- what is said of the routine that a line uses by CALL or REPEAT; `nothing` where the line uses none
unfoldable pub used : {A : Type 0} → (nothing : A) → (ℕ → A) → Line → A
used nothing said (INC r) = nothing
used nothing said (DEC r t) = nothing
used nothing said (GO_TO t) = nothing
used nothing said (CALL c) = said c
used nothing said (REPEAT r c) = said c

-- A line uses a routine by CALL or REPEAT, ..
pub data LineUses : Line → ℕ → Type 0 where
  by_CALL : {c : ℕ} → LineUses (CALL c) c
  by_REPEAT : {r c : ℕ} → LineUses (REPEAT r c) c

-- .. and a routine uses those that its lines use.
pub record Uses (book : Book) (k c : ℕ) : Type 0 where
  pub at_line : ℕ
  pub line : Line
  pub rest : List Line
  pub stands : drop at_line (routine book k) ≡ line ∷ rest
  pub line_uses : LineUses line c

-- CALL and REPEAT name only a routine with a number below their own.
unfoldable pub CalleesBelow : Book → Type 0
CalleesBelow book = (k c : ℕ) → Uses book k c → c < k

-- So what is said of a routine by what is said of those that it uses is said from the lowest up: `rule` says it of routine k, handed
-- what was said of the routines below it.
unfoldable pub said_below : {A : Type 0} → (nothing : A) → (rule : (ℕ → A) → ℕ → A) → (bound : ℕ) → ℕ → A
said_below nothing rule zero k = nothing
said_below nothing rule (suc bound) k = rule (said_below nothing rule bound) k

unfoldable pub from_the_lowest_up : {A : Type 0} → (nothing : A) → (rule : (ℕ → A) → ℕ → A) → ℕ → A
from_the_lowest_up nothing rule k = said_below nothing rule (suc k) k

-- ---- checking a book, and reading one line of it

pub record Counts : Type 0 where
  pub routine_count : ℕ
  pub line_count : ℕ

-- A book that is taken has R routines and L lines.
unfoldable pub check_answer : List ℕ → Answer Counts
check_answer b = answer_of (book_verdict b) (record { routine_count = routines b; line_count = lines b })

-- Then: reading 12, 17. 12 NO ROUTINE: asked routine not below R. 17 LINE: line to read not below its routine's count.
unfoldable pub read_verdict : (b : List ℕ) (routine line : ℕ) → Verdict
read_verdict b r j =
    book_verdict b and_then
    refuse_if (r not_below routines b) NO_ROUTINE 0 otherwise
    refuse_if (j not_below count b r) LINE 0 otherwise
    pass

-- The book reader goes over the caller's bytes and makes no copy of them. (That is for the code: here bytes are a list.)
-- Reading takes a routine and a line counted inside it, and answers the kind, register and operand that stand there.
unfoldable pub read_answer : (b : List ℕ) (routine line : ℕ) → Answer LineFields
read_answer b r j = answer_of (read_verdict b r j) (fields_in b r j)
