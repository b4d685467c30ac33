-- No two answers tell the same: each is got back from what it tells.
-- By the cases of each type; what is got back from what x tells is x, so two that tell the same are the same. Assumes nothing.
use Rattle.std.specs.Prelude.{ℕ, Result, Ok, Err}
use mathlib.Core.Path.{◌≡◌, refl, sym, ◌∙◌, ap}
use Rattle.scope.specs.Refusals as paper
use Rattle.scope.specs.Refusals.{Answer, refused, accepted}
use Rattle.scope.specs.Book as book
use Rattle.scope.specs.Book.{fields_of, line_of}
use Rattle.scope.specs.Ram as ram
use Rattle.scope.proofs.TakenBook.{line_read_back}
use Rattle.book.specs.declared.refusals.Name.{Name}
use Rattle.book.specs.declared.refusals.Name.TheVariants as name
use Rattle.book.specs.declared.refusals.Refusal.{Refusal}
use Rattle.book.specs.declared.lines.Line.{Line}
use Rattle.book.specs.declared.lines.Line.TheVariants as line
use Rattle.book.specs.declared.flat.Instruction.{Instruction}
use Rattle.book.specs.declared.flat.Instruction.TheVariants as instruction
use Rattle.book.specs.declared.header.Counts.{Counts}
use Rattle.book.specs.Told.{name_told, refusal_told, result_told, number_told, counts_told, check_told, line_told, read_told, instruction_told}

-- what is got back tells apart
pub apart : {A B : Type 0} (told : A → B) (back : B → A) → ((x : A) → back (told x) ≡ x) → (x y : A) → told x ≡ told y → x ≡ y
apart told back again x y e = sym (again x) ∙ ap back e ∙ again y

-- ---- refusals

abbrev pub name_back : paper.Name → Name
name_back paper.SHORT = name.Short
name_back paper.FORMAT = name.Format
name_back paper.COUNTS = name.Counts
name_back paper.OFFSETS = name.Offsets
name_back paper.LENGTH = name.Length
name_back paper.ROUTINE = name.Routine
name_back paper.KIND = name.Kind
name_back paper.REGISTER = name.Register
name_back paper.TARGET = name.Target
name_back paper.CALLEE = name.Callee
name_back paper.DEPTH = name.Depth
name_back paper.NO_ROUTINE = name.NoRoutine
name_back paper.TOO_LONG = name.TooLong
name_back paper.NO_ROOM = name.NoRoom
name_back paper.NOT_FLAT = name.NotFlat
name_back paper.REGISTERS = name.Registers
name_back paper.LINE = name.Line
name_back paper.NOT_STEADY = name.NotSteady
name_back paper.QUOTE = name.Quote

name_again : (n : Name) → name_back (name_told n) ≡ n
unfolding name_told
name_again name.Short = refl
name_again name.Format = refl
name_again name.Counts = refl
name_again name.Offsets = refl
name_again name.Length = refl
name_again name.Routine = refl
name_again name.Kind = refl
name_again name.Register = refl
name_again name.Target = refl
name_again name.Callee = refl
name_again name.Depth = refl
name_again name.NoRoutine = refl
name_again name.TooLong = refl
name_again name.NoRoom = refl
name_again name.NotFlat = refl
name_again name.Registers = refl
name_again name.Line = refl
name_again name.NotSteady = refl
name_again name.Quote = refl

abbrev pub refusal_back : paper.Refusal → Refusal
refusal_back x = record { name = name_back x.name; place = x.place }

pub refusal_again : (x : Refusal) → refusal_back (refusal_told x) ≡ x
unfolding refusal_told
refusal_again x = ap (λ (n : Name). record { name = n; place = x.place }) (name_again x.name)

pub refusals_apart : (x y : Refusal) → refusal_told x ≡ refusal_told y → x ≡ y
refusals_apart = apart refusal_told refusal_back refusal_again

-- ---- answers

-- An answer or its refusal is got back where the answer is.
module _ {A B : Type 0} (told : A → B) (back : B → A) (again : (x : A) → back (told x) ≡ x) where
  answer_back : Answer B → Result A Refusal
  answer_back (accepted x) = Ok (back x)
  answer_back (refused x) = Err (refusal_back x)

  answer_again : (r : Result A Refusal) → answer_back (result_told told r) ≡ r
  unfolding result_told answer_back
  answer_again (Ok x) = ap Ok (again x)
  answer_again (Err x) = ap Err (refusal_again x)

  pub answers_apart : (r s : Result A Refusal) → result_told told r ≡ result_told told s → r ≡ s
  answers_apart = apart (result_told told) answer_back answer_again

pub numbers_apart : (r s : Result ℕ Refusal) → number_told r ≡ number_told s → r ≡ s
numbers_apart = answers_apart (λ n. n) (λ n. n) (λ n. refl)

pub checks_apart : (k l : Result Counts Refusal) → check_told k ≡ check_told l → k ≡ l
unfolding counts_told
checks_apart = answers_apart counts_told (λ c. record { routines = c.routine_count; lines = c.line_count }) (λ c. refl)

-- ---- lines

abbrev line_back : book.Line → Line
line_back (book.INC r) = line.Inc (record { 0 = r })
line_back (book.DEC r t) = line.Dec (record { 0 = r }) (record { 0 = t })
line_back (book.GO_TO t) = line.GoTo (record { 0 = t })
line_back (book.CALL k) = line.Call k
line_back (book.REPEAT r k) = line.Repeat (record { 0 = r }) k

line_again : (l : Line) → line_back (line_told l) ≡ l
unfolding line_told
line_again (line.Inc r) = refl
line_again (line.Dec r t) = refl
line_again (line.GoTo t) = refl
line_again (line.Call k) = refl
line_again (line.Repeat r k) = refl

pub lines_apart : (l m : Line) → line_told l ≡ line_told m → l ≡ m
lines_apart = apart line_told line_back line_again

pub reads_apart : (r s : Result Line Refusal) → read_told r ≡ read_told s → r ≡ s
reads_apart =
    answers_apart (λ l. fields_of (line_told l)) (λ f. line_back (line_of f)) (λ l. ap line_back (line_read_back (line_told l)) ∙ line_again l)

abbrev instruction_back : ram.Instruction → Instruction
instruction_back (ram.INC r) = instruction.Inc (record { 0 = r })
instruction_back (ram.DEC r t) = instruction.Dec (record { 0 = r }) (record { 0 = t })
instruction_back (ram.GO_TO t) = instruction.GoTo (record { 0 = t })

instruction_again : (x : Instruction) → instruction_back (instruction_told x) ≡ x
unfolding instruction_told
instruction_again (instruction.Inc r) = refl
instruction_again (instruction.Dec r t) = refl
instruction_again (instruction.GoTo t) = refl

pub instructions_apart : (x y : Instruction) → instruction_told x ≡ instruction_told y → x ≡ y
instructions_apart = apart instruction_told instruction_back instruction_again
