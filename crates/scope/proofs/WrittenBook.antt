-- Reading after writing is the identity: the bytes that `flat_book` writes are a taken book with one routine that says the program written.
-- The header's numbers are read off one by one; line i stands 16 + 4i bytes behind the front, four bytes a line. Assumes nothing.
use Prim.Native.Nat.{ℕ, zero, suc, ◌+◌, ◌*◌, ◌/◌, ◌%◌, ◌<◌, ◌≤◌}
use native.Mathlib.Omega.{arith}
use mathlib.Core.Path.{◌≡◌, refl, sym, ◌∙◌, ap}
use mathlib.Core.Logic.{⊎_elim}
use mathlib.Core.List.{List, [], ◌∷◌, ◌++◌, map}
use lib.ListN.{length, get_or, drop, drop_of_length-le}
use lib.Seq.{drop-cons}
use lib.Arith.{digits_div, digits_mod}
use Rattle.scope.specs.Words.{if, listed}
use Rattle.scope.specs.Ram as ram
use Rattle.scope.specs.Ram.{Instruction, Program, has, TargetWithin, TargetsWithin}
use Rattle.scope.specs.Book.{the_format, most_lines, header_bytes, byte, Bytes, two_byte, two_bytes, two_bytes_each, format, routines, lines, routine_table, line_table, stated_length, line_table_due, length_due, first_line, count, first_line_due, fields_of, line_offset, fields_at, line_number, fields_in, Taken}
use Rattle.scope.specs.Flattening.{bytes_of_fields, as_line, bytes_of_program, flat_header, flat_book, flat_book_bytes}
use Rattle.scope.specs.Given.{Short, WrongFormat, WrongCounts, WrongOffsets, WrongLength, WrongEntry, WrongEnd, WrongKind, ZeroStands, WrongRegister, HasTarget, WrongTarget, HasCallee, WrongCallee, GoodLine, GoodIn, GoodBook}
use Rattle.scope.specs.FlatBook.{FitsABook, Says}
use Rattle.scope.specs.Transitions.{RegisterWithin, RegistersWithin}
use Rattle.scope.specs.Steps.{register_count}
use Rattle.scope.specs.Running.{instruction_of, program_of}
use Rattle.scope.proofs.Ram.{has_later}
use Rattle.scope.proofs.Lists.{nothing_stands, listed_is}
use Rattle.scope.proofs.GivenExactlyWhen.{taken_exactly_when}
use Rattle.scope.proofs.TakenBook.{taken_book, same_fields}
use Rattle.scope.proofs.TakenProgram.{starts_at_0, counts_all, length_program_of, line_of_the_book}
use Rattle.scope.proofs.OneRoutine.{fields_again, one_routine_book}

-- ---- the header

-- a number below 65,536 is read back from its two bytes
two_bytes_again : (n : ℕ) → n < 65536 → n % 256 + 256 * (n / 256 % 256) ≡ n
two_bytes_again n h = omega arith

-- the numbers that the header and the one entry say
record Front (P : Program) : Type 0 where
  format_1 : format (flat_book P) ≡ the_format
  routines_1 : routines (flat_book P) ≡ 1
  lines_n : lines (flat_book P) ≡ length P
  routine_table_12 : routine_table (flat_book P) ≡ header_bytes
  line_table_16 : line_table (flat_book P) ≡ line_table_due 1
  stated_length_due : stated_length (flat_book P) ≡ length_due 1 (length P)
  first_line_0 : first_line (flat_book P) 0 ≡ 0
  count_n : count (flat_book P) 0 ≡ length P

front : (P : Program) → length P ≤ most_lines → Front P
unfolding format routines lines routine_table line_table stated_length first_line count two_byte byte flat_book flat_header two_bytes_each two_bytes length_due line_table_due
front P h =
    record {
      format_1 = refl;
      routines_1 = refl;
      lines_n = two_bytes_again (length P) (omega arith);
      routine_table_12 = refl;
      line_table_16 = refl;
      stated_length_due = two_bytes_again (length_due 1 (length P)) (omega arith);
      first_line_0 = refl;
      count_n = two_bytes_again (length P) (omega arith);
    }

-- ---- the lines

pub length_of_bytes : (P : Program) → length (bytes_of_program P) ≡ 4 * length P
unfolding bytes_of_program bytes_of_fields two_bytes
length_of_bytes [] = refl
length_of_bytes (x ∷ P) = omega (arith, length_of_bytes P)

-- The result is .. 16 bytes plus 4 a line.
pub length_flat_book : (P : Program) → length (flat_book P) ≡ flat_book_bytes (length P)
unfolding flat_book flat_header two_bytes_each two_bytes flat_book_bytes
length_flat_book P = omega (arith, length_of_bytes P)

behind_the_front : (P : Program) (q k : ℕ) → q ≡ 16 + k → byte (flat_book P) q ≡ get_or (bytes_of_program P) k 0
unfolding byte flat_book flat_header two_bytes_each two_bytes
behind_the_front P q k e =
    let z : q ≡ suc (suc (suc (suc (suc (suc (suc (suc (suc (suc (suc (suc (suc (suc (suc (suc k))))))))))))))) = omega arith in
    rw z

-- four bytes a line
four_a_line : (P : Program) (i : ℕ) {x : Instruction} {rest : Program} (q m : ℕ) → drop i P ≡ x ∷ rest → q ≡ 4 * i + m
    → get_or (bytes_of_program P) q 0 ≡ get_or (bytes_of_program (x ∷ rest)) m 0
unfolding bytes_of_program bytes_of_fields two_bytes
four_a_line P zero q m e h =
    let z : q ≡ m = omega arith in
    rw (z, e)
four_a_line [] (suc i) q m e h = nothing_stands (suc i) e
four_a_line (y ∷ P) (suc i) q m e h =
    let z : q ≡ suc (suc (suc (suc (4 * i + m)))) = omega arith in
    rw z (four_a_line P i (4 * i + m) m e refl)

written_byte : (P : Program) (i : ℕ) {x : Instruction} {rest : Program} (q m : ℕ) → drop i P ≡ x ∷ rest → q ≡ 16 + 4 * i + m
    → byte (flat_book P) q ≡ get_or (bytes_of_program (x ∷ rest)) m 0
written_byte P i q m e h = behind_the_front P q (4 * i + m) (omega arith) ∙ four_a_line P i (4 * i + m) m e refl

-- ---- what is written are bytes

data AllBytes : List ℕ → Type 0 where
  none : AllBytes []
  one_more : {x : ℕ} {xs : List ℕ} → x < 256 → AllBytes xs → AllBytes (x ∷ xs)

are_bytes : {xs : List ℕ} → AllBytes xs → Bytes xs
unfolding Bytes byte
are_bytes none i h = absurd (omega arith)
are_bytes (one_more x all) zero h = x
are_bytes (one_more x all) (suc i) h = are_bytes all i (omega arith)

both_bytes : {xs ys : List ℕ} → AllBytes xs → AllBytes ys → AllBytes (xs ++ ys)
both_bytes none more = more
both_bytes (one_more x all) more = one_more x (both_bytes all more)

two_more : (n : ℕ) {xs : List ℕ} → AllBytes xs → AllBytes (two_bytes n ++ xs)
unfolding two_bytes
two_more n all = one_more {x = n % 256} (omega arith) (one_more {x = n / 256 % 256} (omega arith) all)

numbers_are_bytes : (ns : List ℕ) → AllBytes (two_bytes_each ns)
unfolding two_bytes_each
numbers_are_bytes [] = none
numbers_are_bytes (n ∷ ns) = two_more n (numbers_are_bytes ns)

small_fields :
    (x : Instruction) → RegisterWithin register_count x
    → ((fields_of (as_line x)).kind < 256) × ((fields_of (as_line x)).register < 256)
unfolding RegisterWithin fields_of as_line
small_fields (ram.INC j) r = (omega arith, omega arith)
small_fields (ram.DEC j l) r = (omega arith, omega arith)
small_fields (ram.GO_TO l) r = (omega arith, omega arith)

lines_are_bytes : (P : Program) → RegistersWithin register_count P → AllBytes (bytes_of_program P)
unfolding bytes_of_program bytes_of_fields two_bytes RegistersWithin
lines_are_bytes [] h = none
lines_are_bytes (x ∷ P) h =
    let small = small_fields x (h 0 x (has refl)) in
    let rest = lines_are_bytes P (λ i y s. h (suc i) y (has_later s)) in
    one_more small.0 (one_more small.1 (two_more (fields_of (as_line x)).operand rest))

written_are_bytes : (P : Program) → RegistersWithin register_count P → Bytes (flat_book P)
unfolding flat_book flat_header
written_are_bytes P h = are_bytes (both_bytes (both_bytes (numbers_are_bytes _) (numbers_are_bytes _)) (lines_are_bytes P h))

-- ---- what is read is what was written

-- What is read at line i is what was written there.
fields_written : (P : Program) (i : ℕ) {x : Instruction} {rest : Program} → length P ≤ most_lines → drop i P ≡ x ∷ rest
    → (fields_of (as_line x)).operand < 65536 → fields_at (flat_book P) i ≡ fields_of (as_line x)
unfolding fields_at line_offset line_table_due two_byte bytes_of_program bytes_of_fields two_bytes
fields_written P i {x} h e small =
    let q = line_offset (flat_book P) i in
    let offset : q ≡ 16 + 4 * i = rw (front P h).routines_1 (omega arith) in
    let low = written_byte P i (q + 2) 2 e (omega (arith, offset)) in
    let high = written_byte P i (q + 2 + 1) 3 e (omega (arith, offset)) in
    same_fields (written_byte P i q 0 e (omega (arith, offset))) (written_byte P i (q + 1) 1 e (omega (arith, offset)))
    (rw (low, high) (two_bytes_again _ small))

instruction_again : (x : Instruction) → instruction_of (fields_of (as_line x)) ≡ x
unfolding instruction_of fields_of as_line if
instruction_again (ram.INC r) = refl
instruction_again (ram.DEC r t) = refl
instruction_again (ram.GO_TO t) = refl

-- ---- the book that is written

written_line_is_good :
    (x : Instruction) (n : ℕ) → RegisterWithin register_count x → TargetWithin n x → GoodLine (fields_of (as_line x)) 0 n
unfolding RegisterWithin TargetWithin fields_of as_line WrongKind WrongRegister ZeroStands WrongTarget HasTarget WrongCallee HasCallee
written_line_is_good (ram.INC j) n r t =
    record {
      kind_right = ⊎_elim (omega arith) (omega arith);
      register_right = ⊎_elim (omega arith) (λ z. ⊎_elim (omega arith) (omega arith) z.0);
      target_right = ⊎_elim (λ z. ⊎_elim (omega arith) (omega arith) z.0) (λ z. z.1 refl);
      callee_right = λ z. ⊎_elim (omega arith) (omega arith) z.0;
    }
written_line_is_good (ram.DEC j l) n r t =
    record {
      kind_right = ⊎_elim (omega arith) (omega arith);
      register_right = ⊎_elim (omega arith) (λ z. ⊎_elim (omega arith) (omega arith) z.0);
      target_right = ⊎_elim (λ z. omega (arith, z.1)) (λ z. omega (arith, z.0));
      callee_right = λ z. ⊎_elim (omega arith) (omega arith) z.0;
    }
written_line_is_good (ram.GO_TO l) n r t =
    record {
      kind_right = ⊎_elim (omega arith) (omega arith);
      register_right = ⊎_elim (omega arith) (λ z. z.1 refl);
      target_right = ⊎_elim (λ z. omega (arith, z.1)) (λ z. omega (arith, z.0));
      callee_right = λ z. ⊎_elim (omega arith) (omega arith) z.0;
    }

small_operand : (x : Instruction) (n : ℕ) → n ≤ most_lines → TargetWithin n x → (fields_of (as_line x)).operand < 65536
unfolding TargetWithin fields_of as_line
small_operand (ram.INC j) n h t = omega arith
small_operand (ram.DEC j l) n h t = omega arith
small_operand (ram.GO_TO l) n h t = omega arith

only_routine_0 : (C : ℕ → Type 0) → C 0 → (r : ℕ) → r < 1 → C r
only_routine_0 C c zero h = c
only_routine_0 C c (suc r) h = absurd (omega arith)

module _ (P : Program) (fits : FitsABook P) where
  -- What stands at line i of the book is instruction i of the program.
  pub read_at : (i : ℕ) {x : Instruction} {rest : Program} → drop i P ≡ x ∷ rest → fields_at (flat_book P) i ≡ fields_of (as_line x)
  unfolding TargetsWithin
  read_at i {x} e =
      let short = fits.not_too_long in
      fields_written P i short e (small_operand x (length P) short (fits.ours.targets_within i x (has e)))

  written_line : (j : ℕ) → j < count (flat_book P) 0 → GoodIn (flat_book P) 0 j
  unfolding GoodIn fields_in line_number TargetsWithin RegistersWithin
  written_line j l =
      let f = front P fits.not_too_long in
      let x = get_or P j (ram.INC 0) in
      let e = drop-cons P j (ram.INC 0) (omega (arith, f.count_n)) in
      let same : line_number (flat_book P) 0 j ≡ j = omega (arith, f.first_line_0) in
      rw (same, read_at j e, f.count_n)
      (written_line_is_good x (length P) (fits.ours.registers_within j x (has e)) (fits.ours.targets_within j x (has e)))

  written_is_good : GoodBook (flat_book P)
  unfolding Short WrongFormat WrongCounts WrongOffsets WrongLength WrongEntry WrongEnd first_line_due length_due line_table_due flat_book_bytes
  written_is_good =
      let f = front P fits.not_too_long in
      let one = f.routines_1 in
      let long = length_flat_book P in
      record {
        not_short = λ h. omega (arith, long);
        format_right = λ w. w f.format_1;
        counts_right = ⊎_elim (omega (arith, one)) (⊎_elim (omega (arith, one)) (omega (arith, f.lines_n, fits.not_too_long)));
        offsets_right =
            ⊎_elim (λ w. w f.routine_table_12)
            (⊎_elim (λ w. w (rw one f.line_table_16)) (λ w. w (rw (one, f.lines_n) f.stated_length_due)));
        length_right = λ w. w (omega (arith, long, f.stated_length_due));
        entries_right = λ r h. only_routine_0 (λ r. ¬ WrongEntry (flat_book P) r) (λ w. w f.first_line_0) r (rw one at h);
        end_right = λ w. w (rw one (omega (arith, f.first_line_0, f.count_n, f.lines_n)));
        lines_good = λ r j h.
            only_routine_0 (λ r. j < count (flat_book P) r → GoodIn (flat_book P) r j) (written_line j) r (rw one at h);
      }

  -- The bytes that are written of a program say that program.
  pub written_says_it : Says (flat_book P) P
  unfolding program_of
  written_says_it =
      let f = front P fits.not_too_long in
      let t = (taken_exactly_when (flat_book P)).1 written_is_good in
      let again : program_of (flat_book P) ≡ P =
      listed_is _ P 0 (lines (flat_book P)) (sym f.lines_n) (λ j k x rest e h.
      let same : k ≡ j = omega arith in
      rw (same, read_at j e) (instruction_again x)) in
      record {
        bytes = written_are_bytes P fits.ours.registers_within;
        taken = t;
        one_routine = f.routines_1;
        as_many_lines = f.lines_n;
        its_program = again;
        its_book = one_routine_book (flat_book P) t f.routines_1 ∙ ap (λ Q. map as_line Q ∷ []) again;
      }

-- ---- writing after reading

low_byte_again : (low high : ℕ) → low < 256 → (low + 256 * high) % 256 ≡ low
low_byte_again low high h =
    let digits : low + 256 * high ≡ high * 256 + low = omega arith in
    rw digits (digits_mod high h)

high_byte_again : (low high : ℕ) → low < 256 → high < 256 → (low + 256 * high) / 256 % 256 ≡ high
high_byte_again low high h g =
    let digits : low + 256 * high ≡ high * 256 + low = omega arith in
    rw (digits, digits_div high h) (omega arith)

-- the numbers of the header and of the one entry of a book with one routine and n lines
numbers_in_front : ℕ → List ℕ
numbers_in_front n = the_format ∷ 1 ∷ n ∷ header_bytes ∷ line_table_due 1 ∷ length_due 1 n ∷ 0 ∷ n ∷ []

module _ (b : List ℕ) (bytes : Bytes b) where
  -- Two bytes stand as they are written of the number that they say.
  two_bytes_stand : (q r : ℕ) → r ≡ q + 2 → r ≤ length b → drop q b ≡ two_bytes (two_byte b q) ++ drop r b
  unfolding two_bytes two_byte byte Bytes
  two_bytes_stand q r e h =
      let next : q + 1 ≡ suc q = omega arith in
      let after : r ≡ suc (suc q) = omega arith in
      let small = bytes q (omega arith) in
      let low = low_byte_again (byte b q) (byte b (q + 1)) small in
      let high = high_byte_again (byte b q) (byte b (q + 1)) small (bytes (q + 1) (omega arith)) in
      rw (low, high, after, next) (drop-cons b q 0 (omega arith) ∙ ap (λ xs. byte b q ∷ xs) (drop-cons b (suc q) 0 (omega arith)))

  numbers_stand : (n i q r : ℕ) → q ≡ 2 * i → r ≡ q + 2 * n → r ≤ length b
      → drop q b ≡ two_bytes_each (listed (λ k. two_byte b (2 * k)) i n) ++ drop r b
  unfolding two_bytes_each two_bytes listed
  numbers_stand zero i q r e f h =
      let same : q ≡ r = omega arith in
      ap (λ x. drop x b) same
  numbers_stand (suc n) i q r e f h =
      two_bytes_stand q (q + 2) refl (omega arith)
      ∙ ap (λ x. two_bytes (two_byte b x) ++ drop (q + 2) b) e
      ∙ ap (λ xs. two_bytes (two_byte b (2 * i)) ++ xs) (numbers_stand n (suc i) (q + 2) r (omega arith) (omega arith) h)

  module _ (t : Taken b) (one : routines b ≡ 1) where
    its_length : length b ≡ 16 + 4 * lines b
    unfolding length_due line_table_due
    its_length = omega (arith, (rw one at (taken_book b t).header.length_as_due))

    lines_stand : (n i q : ℕ) → i + n ≡ lines b → q ≡ 16 + 4 * i
        → drop q b ≡ bytes_of_program (listed (λ k. instruction_of (fields_at b k)) i n)
    unfolding listed byte bytes_of_program bytes_of_fields two_bytes fields_at line_offset line_table_due
    lines_stand zero i q e h = drop_of_length-le b {i = q} (omega (arith, its_length))
    lines_stand (suc n) i q e h =
        let offset : line_offset b i ≡ q = rw one (omega arith) in
        let next : q + 1 ≡ suc q = omega arith in
        let operand : q + 2 ≡ suc (suc q) = omega arith in
        let rest = lines_stand n (suc i) (q + 4) (omega arith) (omega arith) in
        let two = two_bytes_stand (suc (suc q)) (q + 4) (omega arith) (omega (arith, its_length)) in
        rw (fields_again (fields_at b i) (lines b) (line_of_the_book b t one i (omega arith)), offset, next, operand)
        (drop-cons b q 0 (omega (arith, its_length))
        ∙ ap (λ xs. byte b q ∷ xs) (drop-cons b (suc q) 0 (omega (arith, its_length)))
        ∙ ap (λ xs. byte b q ∷ byte b (suc q) ∷ xs) two
        ∙ ap (λ xs. byte b q ∷ byte b (suc q) ∷ two_bytes (two_byte b (suc (suc q))) ++ xs) rest)

    they_stand_in_front : listed (λ k. two_byte b (2 * k)) 0 8 ≡ numbers_in_front (lines b)
    unfolding listed numbers_in_front format routines lines routine_table line_table stated_length first_line count
    they_stand_in_front =
        let T = taken_book b t in
        let f : two_byte b 0 ≡ the_format = T.header.format_is_1 in
        let r : two_byte b 2 ≡ 1 = one in
        let u : two_byte b 6 ≡ header_bytes = T.header.routine_table_as_due in
        let v : two_byte b 8 ≡ line_table_due 1 = rw one at T.header.line_table_as_due in
        let w : two_byte b 10 ≡ length_due 1 (lines b) = rw one at T.header.stated_as_due in
        let x : two_byte b 12 ≡ 0 = starts_at_0 b t one in
        let y : two_byte b 14 ≡ lines b = counts_all b t one in
        cc

    -- The program that a book with one routine says is written as that very book.
    pub writing_after_reading : flat_book (program_of b) ≡ b
    unfolding flat_book flat_header two_bytes_each two_bytes program_of numbers_in_front
    writing_after_reading =
        rw (length_program_of b)
        (sym (numbers_stand 8 0 0 16 refl refl (omega (arith, its_length))
        ∙ ap (λ ns. two_bytes_each ns ++ drop 16 b) they_stand_in_front
        ∙ ap (λ xs. two_bytes_each (numbers_in_front (lines b)) ++ xs) (lines_stand (lines b) 0 16 (omega arith) refl)))
