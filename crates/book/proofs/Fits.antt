-- What is read of a taken book fits, and of a flat one stands where it was read: what crates above need of `lines::line_at` and `flat::instruction_at`.
-- A taken line fits, field by field, and it is the line of the list that the bytes say; both by the answer's cases. Assumes nothing.
use Prim.Native.Nat.{ℕ, suc, ◌<◌, ◌≤◌}
use native.Mathlib.Omega.{arith}
use mathlib.Core.Logic.{◌⊎◌, inl, inr}
use mathlib.Core.Path.{◌≡◌, sym, ◌∙◌, ap, subst}
use mathlib.Core.List.{List, ◌∷◌}
use lib.ListN.{drop}
use Rattle.scope.specs.Book as book
use Rattle.scope.specs.Book.{routines, lines, count, line_of, fields_at, fields_in}
use Rattle.scope.specs.Steps.{register_count}
use Rattle.scope.specs.Running.{instruction_of, program_of}
use Rattle.scope.proofs.TakenBook.{LineFits, INC_fits, DEC_fits, GO_TO_fits, CALL_fits, REPEAT_fits, taken_book, taken_line_fits}
use Rattle.scope.proofs.TakenProgram.{program_stands}
use Rattle.book.specs.declared.header.Counts.{Counts}
use Rattle.book.specs.declared.lines.Reg.{Reg}
use Rattle.book.specs.declared.lines.RoutineLine.{RoutineLine}
use Rattle.book.specs.declared.lines.Line.{Line}
use Rattle.book.specs.declared.lines.Line.TheVariants.{Inc, Dec, GoTo, Call, Repeat}
use Rattle.book.specs.declared.flat.Instruction.{Instruction}
use Rattle.book.specs.Told.{line_told, instruction_told}
use Rattle.book.specs.Asked.{LineWithin, TakenWith}
use Rattle.book.proofs.Scanned.{below_R}

-- ---- a line of a routine

-- A line of routine r, which has n lines: its register is a register, its target a line or the end, its callee below r.
unfoldable pub FitsLine : (r n : ℕ) → Line → Type 0
FitsLine r n (Inc g) = g.0 < register_count
FitsLine r n (Dec g u) = (g.0 < register_count) × (u.0 ≤ n)
FitsLine r n (GoTo u) = u.0 ≤ n
FitsLine r n (Call k) = k < r
FitsLine r n (Repeat g k) = (g.0 < register_count) × (k < r)

told_fits : {r n : ℕ} (l : Line) → LineFits r n (line_told l) → FitsLine r n l
unfolding FitsLine line_told
told_fits (Inc g) (INC_fits h) = omega arith
told_fits (Dec g u) (DEC_fits h s) = (omega arith, s)
told_fits (GoTo u) (GO_TO_fits s) = s
told_fits (Call k) (CALL_fits s) = s
told_fits (Repeat g k) (REPEAT_fits h s) = (omega arith, s)

module _ (b : List ℕ) (c : Counts) (l : Line) (r j : ℕ) (t : TakenWith b c) (h : r < c.routines) (s : j < count b r)
    (e : line_told l ≡ line_of (fields_in b r j)) where
  here : r < routines b
  here = below_R r t.tabled.sized h

  -- What holds of a line of this kind holds of the line.
  pub holds_of_the_line : (P : book.Line → Type 0) {m : Line} → l ≡ m → P (line_told m) → P (line_of (fields_in b r j))
  holds_of_the_line P k w = subst P (ap line_told (sym k) ∙ e) w

  pub line_fits : {m : Line} → l ≡ m → FitsLine r (count b r) m
  line_fits k =
      let taken = taken_line_fits (fields_in b r j) r (count b r) ((taken_book b t.taken).lines_right r j here s) in
      rw k at (told_fits {r = r} {n = count b r} l (rw e taken))

  pub INC_register : {g : Reg} → l ≡ Inc g → g.0 < register_count
  unfolding FitsLine
  INC_register k = line_fits k

  pub DEC_register : {g : Reg} {u : RoutineLine} → l ≡ Dec g u → g.0 < register_count
  unfolding FitsLine
  DEC_register k = (line_fits k).0

  pub DEC_target : {g : Reg} {u : RoutineLine} → l ≡ Dec g u → u.0 ≤ count b r
  unfolding FitsLine
  DEC_target k = (line_fits k).1

  pub GO_TO_target : {u : RoutineLine} → l ≡ GoTo u → u.0 ≤ count b r
  unfolding FitsLine
  GO_TO_target k = line_fits k

  pub CALL_below : {q : ℕ} → l ≡ Call q → q < r
  unfolding FitsLine
  CALL_below k = line_fits k

  pub REPEAT_register : {g : Reg} {q : ℕ} → l ≡ Repeat g q → g.0 < register_count
  unfolding FitsLine
  REPEAT_register k = (line_fits k).0

  pub REPEAT_below : {g : Reg} {q : ℕ} → l ≡ Repeat g q → q < r
  unfolding FitsLine
  REPEAT_below k = (line_fits k).1

  pub callee_below : {q : ℕ} → (l ≡ Call q) ⊎ ((g : Reg) × (l ≡ Repeat g q)) → q < r
  callee_below (inl k) = CALL_below k
  callee_below (inr (g, k)) = REPEAT_below k

-- ---- a line of a flat book

module _ (b : List ℕ) (c : Counts) (t : TakenWith b c) (i : ℕ) (one : c.routines ≤ 1) (h : i < c.lines) where
  pub flat_line_within : LineWithin b 1 i
  flat_line_within =
      record {
        routines_are = omega (arith, t.tabled.sized.counts.routines_are, t.tabled.sized.some_routine);
        in_the_bytes = omega (arith, t.tabled.sized.size, t.tabled.sized.some_routine);
      }

  -- It stands at i in the program that the book says.
  pub flat_line_stands : (x : Instruction) → instruction_told x ≡ instruction_of (fields_at b i)
      → drop i (program_of b) ≡ instruction_told x ∷ drop (suc i) (program_of b)
  flat_line_stands x e =
      program_stands b i (rw (sym t.tabled.sized.counts.lines_are) h) ∙ ap (λ y. y ∷ drop (suc i) (program_of b)) (sym e)
