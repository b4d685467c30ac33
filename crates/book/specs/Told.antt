-- What each answer tells, in document 01's names and values: one clause a case. A name's number is the table's (`number` of `Refusals`).
-- Assumes nothing.
use Rattle.std.specs.Prelude.{ℕ, true, false, ◌≡◌, Result, Ok, Err}
use Rattle.scope.specs.Refusals as paper
use Rattle.scope.specs.Refusals.{Answer, refused, accepted, refusal}
use Rattle.scope.specs.Book as book
use Rattle.scope.specs.Book.{LineFields, fields_of, INC_kind, DEC_kind, GO_TO_kind, CALL_kind, REPEAT_kind, kind_wrong}
use Rattle.scope.specs.Ram as ram
use Rattle.book.specs.declared.refusals.Name.{Name}
use Rattle.book.specs.declared.refusals.Name.TheVariants as name
use Rattle.book.specs.declared.refusals.Refusal.{Refusal}
use Rattle.book.specs.declared.header.Counts.{Counts}
use Rattle.book.specs.declared.lines.Line.{Line}
use Rattle.book.specs.declared.lines.Line.TheVariants as line
use Rattle.book.specs.declared.lines.Kind.{Kind}
use Rattle.book.specs.declared.lines.Kind.TheVariants as kind
use Rattle.book.specs.declared.lines.Fields.{Fields}
use Rattle.book.specs.declared.flat.Instruction.{Instruction}
use Rattle.book.specs.declared.flat.Instruction.TheVariants as instruction

-- ---- refusals

unfoldable pub name_told : Name → paper.Name
name_told name.Short = paper.SHORT
name_told name.Format = paper.FORMAT
name_told name.Counts = paper.COUNTS
name_told name.Offsets = paper.OFFSETS
name_told name.Length = paper.LENGTH
name_told name.Routine = paper.ROUTINE
name_told name.Kind = paper.KIND
name_told name.Register = paper.REGISTER
name_told name.Target = paper.TARGET
name_told name.Callee = paper.CALLEE
name_told name.Depth = paper.DEPTH
name_told name.NoRoutine = paper.NO_ROUTINE
name_told name.TooLong = paper.TOO_LONG
name_told name.NoRoom = paper.NO_ROOM
name_told name.NotFlat = paper.NOT_FLAT
name_told name.Registers = paper.REGISTERS
name_told name.Line = paper.LINE
name_told name.NotSteady = paper.NOT_STEADY
name_told name.Quote = paper.QUOTE

unfoldable pub refusal_told : Refusal → paper.Refusal
refusal_told x = refusal (name_told x.name) x.place

unfoldable pub verdict_told : Result (Unit {0}) Refusal → paper.Verdict
verdict_told (Ok _) = paper.pass
verdict_told (Err x) = paper.refuse (refusal_told x)

-- What a call answers, or its refusal: `told` says what is told of a value.
unfoldable pub result_told : {A B : Type 0} → (told : A → B) → Result A Refusal → Answer B
result_told told (Ok a) = accepted (told a)
result_told told (Err x) = refused (refusal_told x)

-- a number, or the refusal
abbrev pub number_told : Result ℕ Refusal → Answer ℕ
number_told = result_told (λ n. n)

-- ---- checking a book

unfoldable pub counts_told : Counts → book.Counts
counts_told c = record { routine_count = c.routines; line_count = c.lines }

abbrev pub check_told : Result Counts Refusal → Answer book.Counts
check_told = result_told counts_told

-- ---- reading one line of it

unfoldable pub kind_told : Kind → ℕ
kind_told kind.Inc = INC_kind
kind_told kind.Dec = DEC_kind
kind_told kind.GoTo = GO_TO_kind
kind_told kind.Call = CALL_kind
kind_told kind.Repeat = REPEAT_kind

-- 7: the kind of a number, or the name of what is wrong with it
unfoldable pub IsKind : ℕ → Result Kind Name → Type 0
IsKind k (Ok kind) = (kind_told kind ≡ k) × (kind_wrong k ≡ false)
IsKind k (Err n) = (n ≡ name.Kind) × (kind_wrong k ≡ true)

unfoldable pub fields_told : Fields → LineFields
fields_told f = record { kind = f.kind; register = f.register; operand = f.operand }

unfoldable pub line_told : Line → book.Line
line_told (line.Inc r) = book.INC r.0
line_told (line.Dec r t) = book.DEC r.0 t.0
line_told (line.GoTo t) = book.GO_TO t.0
line_told (line.Call k) = book.CALL k
line_told (line.Repeat r k) = book.REPEAT r.0 k

abbrev pub read_told : Result Line Refusal → Answer LineFields
read_told = result_told (λ l. fields_of (line_told l))

-- ---- a line of a flat book

unfoldable pub instruction_told : Instruction → ram.Instruction
instruction_told (instruction.Inc r) = ram.INC r.0
instruction_told (instruction.Dec r t) = ram.DEC r.0 t.0
instruction_told (instruction.GoTo t) = ram.GO_TO t.0
