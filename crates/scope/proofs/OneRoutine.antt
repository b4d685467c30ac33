-- A taken book with one routine says the same as a program and as a book: each line is INC, DEC or GO TO, and flattening changes nothing.
-- Its routine has none below it to use; each line has length 1, so a target starts at its own number. Assumes nothing.
use Prim.Native.Nat.{ℕ, zero, suc, ◌+◌, ◌≤◌}
use native.Mathlib.Omega.{arith}
use mathlib.Core.Path.{◌≡◌, refl, sym, ◌∙◌, ap}
use mathlib.Core.Logic.{inl, inr}
use mathlib.Core.List.{List, [], ◌∷◌, map}
use lib.ListN.{length, take}
use Rattle.scope.specs.Words.{listed}
use Rattle.scope.specs.Ram as ram
use Rattle.scope.specs.Ram.{Instruction, Program, Has, has, TargetWithin, TargetsWithin}
use Rattle.scope.specs.Book.{INC_kind, DEC_kind, GO_TO_kind, routines, lines, first_line, LineFields, fields_of, line_of, fields_at, line_number, fields_in, Taken, Book, routine, routine_of, book_of, said_below, from_the_lowest_up}
use Rattle.scope.specs.Flattening.{line_length, sum_of, flat_length, start, copy_line, copy_lines, copy_by, copy, flat_program, as_line}
use Rattle.scope.specs.Running.{instruction_of, program_of}
use Rattle.scope.specs.Given.{HasCallee}
use Rattle.scope.proofs.Ram.{has_later}
use Rattle.scope.proofs.Verdicts.{if_true, if_false, is_tells, either_way}
use Rattle.scope.proofs.Lists.{listed_map}
use Rattle.scope.proofs.TakenProgram.{starts_at_0, counts_all, line_of_the_book, taken_program}
use Rattle.scope.proofs.TakenBook.{TakenLine, fields_read_back}

-- ---- one line

-- In routine 0 a line that is neither INC nor DEC is GO TO: CALL and REPEAT would name a routine below it.
only_GO_TO_is_left : (f : LineFields) (n : ℕ) → TakenLine f 0 n → ¬ (f.kind ≡ INC_kind) → ¬ (f.kind ≡ DEC_kind) → f.kind ≡ GO_TO_kind
unfolding HasCallee
only_GO_TO_is_left f n t not_1 not_2 =
    let not_4 : ¬ (f.kind ≡ 4) = λ e. omega (arith, t.callee_below (inl e)) in
    let not_5 : ¬ (f.kind ≡ 5) = λ e. omega (arith, t.callee_below (inr e)) in
    omega (arith, t.kind_from_1, t.kind_to_5)

line_as_instruction : (f : LineFields) (n : ℕ) → TakenLine f 0 n → line_of f ≡ as_line (instruction_of f)
unfolding line_of instruction_of as_line
line_as_instruction f n t =
    let C : Instruction → Type 0 = λ x. line_of f ≡ as_line x in
    let first = is_tells f.kind INC_kind in
    let second = is_tells f.kind DEC_kind in
    let third = is_tells f.kind GO_TO_kind in
    either_way C first (λ k. if_true _ _ _ (first.when_true.1 k)) λ not_1.
    either_way C second (λ k. if_false _ _ _ (first.when_false.1 not_1) ∙ if_true _ _ _ (second.when_true.1 k)) λ not_2.
    if_false _ _ _ (first.when_false.1 not_1) ∙ if_false _ _ _ (second.when_false.1 not_2)
    ∙ if_true _ _ _ (third.when_true.1 (only_GO_TO_is_left f n t not_1 not_2))

-- What is read of a line of routine 0 as an instruction is written as that line.
pub fields_again : (f : LineFields) (n : ℕ) → TakenLine f 0 n → fields_of (as_line (instruction_of f)) ≡ f
fields_again f n t = ap fields_of (sym (line_as_instruction f n t)) ∙ fields_read_back f 0 n t

-- ---- the whole book

module _ (b : List ℕ) (t : Taken b) (one : routines b ≡ 1) where
  pub one_routine_book : book_of b ≡ map as_line (program_of b) ∷ []
  unfolding book_of routine_of program_of listed fields_in line_number
  one_routine_book =
      rw (one, counts_all b t one) (ap (λ ls. ls ∷ []) (listed_map as_line _ _ 0 (lines b) (λ k h.
      let same : first_line b 0 + k ≡ k = omega (arith, starts_at_0 b t one) in
      rw same (line_as_instruction (fields_at b k) (lines b) (line_of_the_book b t one k (omega arith))))))

-- ---- flattening it changes nothing

lines_have_length_1 : (length_of : ℕ → ℕ) (P : Program) (i : ℕ) → i ≤ length P
    → sum_of (line_length length_of) (take i (map as_line P)) ≡ i
unfolding sum_of line_length as_line
lines_have_length_1 length_of P zero h = refl
lines_have_length_1 length_of [] (suc i) h = absurd (omega arith)
lines_have_length_1 length_of (ram.INC r ∷ P) (suc i) h = omega (arith, lines_have_length_1 length_of P i (omega arith))
lines_have_length_1 length_of (ram.DEC r t ∷ P) (suc i) h = omega (arith, lines_have_length_1 length_of P i (omega arith))
lines_have_length_1 length_of (ram.GO_TO t ∷ P) (suc i) h = omega (arith, lines_have_length_1 length_of P i (omega arith))

module _ (book : Book) (copy_of : ℕ → ℕ → Program) (n : ℕ) (starts : (i : ℕ) → i ≤ n → start book 0 i ≡ i) where
  line_copied : (p : ℕ) (x : Instruction) → TargetWithin n x → copy_line book copy_of 0 0 p (as_line x) ≡ x ∷ []
  unfolding copy_line as_line TargetWithin
  line_copied p (ram.INC r) h = refl
  line_copied p (ram.DEC r t) h = ap (λ l. ram.DEC r l ∷ []) (omega (arith, starts t h))
  line_copied p (ram.GO_TO t) h = ap (λ l. ram.GO_TO l ∷ []) (omega (arith, starts t h))

  lines_copied : (p : ℕ) (P : Program) → ((i : ℕ) (x : Instruction) → Has P i x → TargetWithin n x)
      → copy_lines book copy_of 0 0 p (map as_line P) ≡ P
  unfolding copy_lines
  lines_copied p [] h = refl
  lines_copied p (x ∷ P) h =
      let next = p + line_length (flat_length book) (as_line x) in
      rw (line_copied p x (h 0 x (has refl)), lines_copied next P (λ i y s. h (suc i) y (has_later s)))

flat_program_of_a_program : (P : Program) → TargetsWithin P → flat_program (map as_line P ∷ []) 0 ≡ P
unfolding flat_program copy from_the_lowest_up said_below copy_by routine start TargetsWithin
flat_program_of_a_program P h =
    let book = map as_line P ∷ [] in
    lines_copied book _ (length P) (lines_have_length_1 (flat_length book) P) 0 P h

-- Flattening routine 0 of a book with one routine gives the program that it says.
pub flattening_changes_nothing : (b : List ℕ) → Taken b → routines b ≡ 1 → flat_program (book_of b) 0 ≡ program_of b
flattening_changes_nothing b t one =
    rw (one_routine_book b t one) (flat_program_of_a_program (program_of b) (taken_program b t one).targets_within)
