-- Document 01, "Flattening": lengths, where a line starts, the flat program, its bytes, and the call that flattens one routine.
-- A copy is made where it begins, so that each jump is made where its line will stand: nothing is moved afterwards. Assumes nothing.
use Rattle.std.specs.Prelude.{ℕ, ◌+◌, ◌*◌, max, List, [], ◌∷◌, ◌++◌, length, take, drop}
use Rattle.scope.specs.Words.{◌above◌, ◌below◌, ◌not_below◌}
use Rattle.scope.specs.Refusals.{DEPTH, NO_ROUTINE, TOO_LONG, NO_ROOM, Verdict, pass, refuse_if, ◌otherwise◌, ◌and_then◌, Call, call_of}
use Rattle.scope.specs.Ram as ram
use Rattle.scope.specs.Ram.{Instruction, Program}
use Rattle.scope.specs.Book.{two_bytes, two_bytes_each, the_format, header_bytes, line_table_due, length_due, routines, LineFields, Line, INC, DEC, GO_TO, CALL, REPEAT, fields_of, book_verdict, Book, routine, book_of, used, from_the_lowest_up}

-- ---- lengths

-- Lengths: INC, DEC, GO TO 1; CALL the length of the routine; REPEAT that length plus 2; ..
unfoldable pub line_length : (length_of : ℕ → ℕ) → Line → ℕ
line_length length_of (INC r) = 1
line_length length_of (DEC r t) = 1
line_length length_of (GO_TO t) = 1
line_length length_of (CALL c) = length_of c
line_length length_of (REPEAT r c) = length_of c + 2

-- .. a routine the sum of its lines.
unfoldable pub sum_of : (Line → ℕ) → List Line → ℕ
sum_of f [] = 0
sum_of f (l ∷ ls) = f l + sum_of f ls

module _ (book : Book) where
  unfoldable pub length_by : (ℕ → ℕ) → ℕ → ℕ
  length_by length_of k = sum_of (line_length length_of) (routine book k)

  unfoldable pub flat_length : ℕ → ℕ
  flat_length = from_the_lowest_up 0 length_by

  -- ---- the flat program

  -- A line starts at the sum of the lengths before it. (So the end starts at the sum of them all.)
  unfoldable pub start : (k i : ℕ) → ℕ
  start k i = sum_of (line_length flat_length) (take i (routine book k))

  -- a line of routine k that starts at p, in a copy of routine k that begins at b
  unfoldable pub copy_line : (copy : ℕ → ℕ → Program) (k b p : ℕ) → Line → Program
  copy_line copy k b p (INC r) = ram.INC r ∷ []
  -- A target becomes the start of that line, the end becomes the end, both moved by where this copy of the routine begins.
  copy_line copy k b p (DEC r t) = ram.DEC r (b + start k t) ∷ []
  copy_line copy k b p (GO_TO t) = ram.GO_TO (b + start k t) ∷ []
  -- A CALL leaves only the copy.
  copy_line copy k b p (CALL c) = copy c p
  -- A REPEAT of register j that starts at p, over length s, becomes DEC j to p+s+2, the copy from p+1, then GO TO p at p+s+1.
  copy_line copy k b p (REPEAT j c) =
      let s = flat_length c in
      ram.DEC j (p + s + 2) ∷ (copy c (p + 1) ++ (ram.GO_TO p ∷ []))

  -- lines of routine k, one after another, the first of which starts at p
  unfoldable pub copy_lines : (copy : ℕ → ℕ → Program) (k b p : ℕ) → List Line → Program
  copy_lines copy k b p [] = []
  copy_lines copy k b p (l ∷ ls) = copy_line copy k b p l ++ copy_lines copy k b (p + line_length flat_length l) ls

  -- the copy of routine k that begins at b
  unfoldable pub copy_by : (copy : ℕ → ℕ → Program) (k b : ℕ) → Program
  copy_by copy k b = copy_lines copy k b b (routine book k)

  unfoldable pub copy : (k b : ℕ) → Program
  copy = from_the_lowest_up (λ b. []) copy_by

  unfoldable pub flat_program : ℕ → Program
  flat_program k = copy k 0

-- ---- the result

-- Line, 4 bytes: kind, register, two-byte operand.
unfoldable pub bytes_of_fields : LineFields → List ℕ
bytes_of_fields f = f.kind ∷ f.register ∷ two_bytes f.operand

-- an instruction as a line of a book with one routine
unfoldable pub as_line : Instruction → Line
as_line (ram.INC r) = INC r
as_line (ram.DEC r t) = DEC r t
as_line (ram.GO_TO t) = GO_TO t

unfoldable pub bytes_of_program : Program → List ℕ
bytes_of_program [] = []
bytes_of_program (x ∷ xs) = bytes_of_fields (fields_of (as_line x)) ++ bytes_of_program xs

-- The result is a book with one routine, .. (its header and the entry of its routine, of n lines)
unfoldable pub flat_header : (n : ℕ) → List ℕ
flat_header n =
    two_bytes_each (the_format ∷ 1 ∷ n ∷ header_bytes ∷ line_table_due 1 ∷ length_due 1 n ∷ [])
    ++ two_bytes_each (0 ∷ n ∷ [])

-- (.. and then its lines)
unfoldable pub flat_book : Program → List ℕ
flat_book xs = flat_header (length xs) ++ bytes_of_program xs

-- .. 16 bytes plus 4 a line.
unfoldable pub flat_book_bytes : (n : ℕ) → ℕ
flat_book_bytes n = 16 + 4 * n

-- At most 4,096 flat lines.
abbrev pub most_flat_lines : ℕ
most_flat_lines = 4096

-- ---- depth

-- 11 DEPTH: more than 32 routines open inside one another
abbrev pub most_open : ℕ
most_open = 32

-- the largest of the depths of the routines that the lines use
unfoldable pub deepest : (depth : ℕ → ℕ) → List Line → ℕ
deepest depth [] = 0
deepest depth (l ∷ ls) = max (used 0 depth l) (deepest depth ls)

-- how many routines are open inside one another at the most: routine k, and the deepest that it uses
module _ (book : Book) where
  unfoldable pub depth_by : (ℕ → ℕ) → ℕ → ℕ
  depth_by depth k = 1 + deepest depth (routine book k)

  unfoldable pub depth : ℕ → ℕ
  depth = from_the_lowest_up 0 depth_by

-- ---- flattening one routine

-- Then: .. flattening 12, 11, 13, ..; quote 12, 11, 13, .. A routine of a taken book flattens if it passes these.
-- 12 NO ROUTINE: asked routine not below R. 13 TOO LONG: flat length above 4,096.
unfoldable pub flattens_verdict : (b : List ℕ) (routine : ℕ) → Verdict
flattens_verdict b k =
    book_verdict b and_then
    refuse_if (k not_below routines b) NO_ROUTINE 0 otherwise
    refuse_if (depth (book_of b) k above most_open) DEPTH 0 otherwise
    refuse_if (flat_length (book_of b) k above most_flat_lines) TOO_LONG 0 otherwise
    pass

-- .. 14. 14 NO ROOM: output shorter than 16 + 4n bytes
unfoldable pub flatten_verdict : (b : List ℕ) (routine room : ℕ) → Verdict
flatten_verdict b k room =
    flattens_verdict b k and_then
    refuse_if (room below flat_book_bytes (flat_length (book_of b) k)) NO_ROOM 0 otherwise
    pass

-- Accepted flattening answers the flat length n and writes its 16 + 4n bytes at the front of the output; bytes behind them stay, as in
-- every call that writes.
unfoldable pub at_the_front_of : (out bytes : List ℕ) → List ℕ
at_the_front_of out bytes = bytes ++ drop (length bytes) out

unfoldable pub flatten_call : (b : List ℕ) (routine : ℕ) (out : List ℕ) → Call ℕ (List ℕ)
flatten_call b k out =
    call_of (flatten_verdict b k (length out)) (flat_length (book_of b) k)
    (at_the_front_of out (flat_book (flat_program (book_of b) k))) out
