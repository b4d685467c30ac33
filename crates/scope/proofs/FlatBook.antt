-- The flat program of a taken book's routine fits a book, so what flattening writes is a taken book with one routine that says it.
-- A jump stays within its copy, a copy within the copy around it. Flattening routine 0 of a flat book changes no byte. Assumes nothing.
use Prim.Native.Nat.{ℕ, zero, suc, ◌+◌, ◌<◌, ◌≤◌}
use native.Mathlib.Omega.{arith}
use mathlib.Core.Path.{◌≡◌, refl, ◌∙◌, ap}
use mathlib.Core.List.{List, [], ◌∷◌, ◌++◌}
use lib.ListN.{length, drop}
use Rattle.scope.specs.Ram as ram
use Rattle.scope.specs.Ram.{Instruction, Program, Has, has, TargetWithin, TargetsWithin}
use Rattle.scope.specs.Book.{Bytes, routines, Line, Book, routine, CalleesBelow, Taken, book_of}
use Rattle.scope.specs.Flattening.{line_length, sum_of, length_by, flat_length, start, copy_line, copy_lines, copy_by, copy, flat_program, flat_book, most_flat_lines}
use Rattle.scope.specs.FlatBook.{FitsABook, Says}
use Rattle.scope.specs.GivenByCalls.{Flattens}
use Rattle.scope.specs.Transitions.{RegisterWithin, RegistersWithin}
use Rattle.scope.specs.Steps.{register_count}
use Rattle.scope.proofs.Lists.{nothing_stands}
use Rattle.scope.proofs.Lowest.{flat_length_by_the_rule, copy_by_the_rule}
use Rattle.scope.proofs.FlatLines.{length_flat_program, start_within}
use Rattle.scope.proofs.TakenBook.{LineFits, INC_fits, DEC_fits, GO_TO_fits, CALL_fits, REPEAT_fits, taken_book, taken_lines_fit, taken_callees_below}
use Rattle.scope.proofs.Depth.{no_more_than_32_open}
use Rattle.scope.proofs.TakenProgram.{length_program_of}
use Rattle.scope.proofs.OneRoutine.{flattening_changes_nothing}
use Rattle.scope.proofs.WrittenBook.{written_says_it, writing_after_reading}

-- ---- instructions that fit a program of n lines

record Fits (n : ℕ) (x : Instruction) : Type 0 where
  register_right : RegisterWithin register_count x
  target_right : TargetWithin n x

data AllFit (n : ℕ) : Program → Type 0 where
  none : AllFit n []
  one_more : {x : Instruction} {xs : Program} → Fits n x → AllFit n xs → AllFit n (x ∷ xs)

both_fit : {n : ℕ} {xs ys : Program} → AllFit n xs → AllFit n ys → AllFit n (xs ++ ys)
both_fit none g = g
both_fit (one_more h f) g = one_more h (both_fit f g)

each_fits : {n : ℕ} {P : Program} (p : ℕ) {x : Instruction} {rest : Program} → AllFit n P → drop p P ≡ x ∷ rest → Fits n x
each_fits p none e = nothing_stands p e
each_fits zero {x} (one_more {x = y} h f) e =
    let same : y ≡ x = cc in
    rw same at h
each_fits (suc p) (one_more h f) e = each_fits p f e

-- ---- a copy fits

-- of a book whose lines fit
module _ (book : Book) (ok : CalleesBelow book)
    (each : (k j : ℕ) (l : Line) (rest : List Line) → drop j (routine book k) ≡ l ∷ rest → LineFits k (length (routine book k)) l) where
  -- the copies of the routines below k fit, wherever they end within n
  abbrev CopiesBelowFit : (k n : ℕ) → Type 0
  CopiesBelowFit k n = (c q : ℕ) → c < k → q + flat_length book c ≤ n → AllFit n (copy book c q)

  line_fits : (k a p n m : ℕ) {l : Line} → LineFits k m l → CopiesBelowFit k n → a + flat_length book k ≤ n
      → p + line_length (flat_length book) l ≤ n → AllFit n (copy_line book (copy book) k a p l)
  unfolding copy_line line_length RegisterWithin TargetWithin
  line_fits k a p n m (INC_fits {r} small) below h g = one_more {x = ram.INC r} (record { register_right = omega arith; target_right = tt }) none
  line_fits k a p n m (DEC_fits {r} {t} small _) below h g =
      one_more {x = ram.DEC r (a + start book k t)} (record { register_right = omega arith; target_right = omega (arith, start_within book ok k t) }) none
  line_fits k a p n m (GO_TO_fits {t} _) below h g =
      one_more {x = ram.GO_TO (a + start book k t)} (record { register_right = tt; target_right = omega (arith, start_within book ok k t) }) none
  line_fits k a p n m (CALL_fits {c} lower) below h g = below c p lower g
  line_fits k a p n m (REPEAT_fits {r} {c} small lower) below h g =
      one_more {x = ram.DEC r (p + flat_length book c + 2)} (record { register_right = omega arith; target_right = omega arith })
      (both_fit (below c (p + 1) lower (omega arith))
      (one_more {x = ram.GO_TO p} (record { register_right = tt; target_right = omega arith }) none))

  lines_fit : (k a p n m : ℕ) (ls : List Line) → ((j : ℕ) (l : Line) (rest : List Line) → drop j ls ≡ l ∷ rest → LineFits k m l)
      → CopiesBelowFit k n → a + flat_length book k ≤ n → p + sum_of (line_length (flat_length book)) ls ≤ n
      → AllFit n (copy_lines book (copy book) k a p ls)
  unfolding copy_lines sum_of
  lines_fit k a p n m [] fit below h g = none
  lines_fit k a p n m (l ∷ ls) fit below h g =
      let next = p + line_length (flat_length book) l in
      both_fit (line_fits k a p n m (fit 0 l ls refl) below h (omega arith))
      (lines_fit k a next n m ls (λ j. fit (suc j)) below h (omega arith))

  copy_fits : (bound k a n : ℕ) → k < bound → a + flat_length book k ≤ n → AllFit n (copy book k a)
  unfolding copy_by length_by
  copy_fits zero k a n low h = absurd (omega arith)
  copy_fits (suc bound) k a n low h =
      rw (copy_by_the_rule book ok k)
      (lines_fit k a a n (length (routine book k)) (routine book k) (each k) (λ c q lower g. copy_fits bound c q n (omega arith) g) h
      (omega (arith, flat_length_by_the_rule book ok k)))

-- ---- the result

stands : {n : ℕ} {P : Program} (p : ℕ) (x : Instruction) → AllFit n P → Has P p x → Fits n x
stands p x f (has e) = each_fits p f e

module _ (b : List ℕ) (t : Taken b) (k : ℕ) where
  -- A flat program of at most 4,096 lines fits a book.
  pub flat_program_fits : flat_length (book_of b) k ≤ most_flat_lines → FitsABook (flat_program (book_of b) k)
  unfolding flat_program TargetsWithin RegistersWithin
  flat_program_fits h =
      let P = flat_program (book_of b) k in
      let long = length_flat_program (book_of b) k in
      let all =
      copy_fits (book_of b) (taken_callees_below b t) (λ k j l rest. taken_lines_fit b t k j) (suc k) k 0 (length P) (omega arith)
      (omega (arith, long)) in
      record {
        ours = record {
          registers_within = λ p x s. (stands p x all s).register_right;
          targets_within = λ p x s. (stands p x all s).target_right;
        };
        not_too_long = rw long h;
      }

  -- The result is a book with one routine, and it says the flat program.
  pub flat_book_is_taken : flat_length (book_of b) k ≤ most_flat_lines
      → Says (flat_book (flat_program (book_of b) k)) (flat_program (book_of b) k)
  flat_book_is_taken h = written_says_it (flat_program (book_of b) k) (flat_program_fits h)

-- Flattening routine 0 of a flat book gives back its very bytes.
pub flat_book_is_its_own_flat_book : (b : List ℕ) → Taken b → routines b ≡ 1 → Bytes b → flat_book (flat_program (book_of b) 0) ≡ b
flat_book_is_its_own_flat_book b t one bytes = ap flat_book (flattening_changes_nothing b t one) ∙ writing_after_reading b bytes t one

-- It flattens, so this is what flattening writes.
pub one_routine_flattens : (b : List ℕ) → Taken b → routines b ≡ 1 → Flattens b 0
one_routine_flattens b t one =
    let T = taken_book b t in
    let same = ap length (flattening_changes_nothing b t one) in
    record {
      taken = t;
      a_routine = omega (arith, one);
      not_too_deep = λ o. omega (arith, no_more_than_32_open b t T.header.some_routine o.opened, o.too_many);
      not_too_long = omega (arith, length_flat_program (book_of b) 0, same, length_program_of b, T.header.lines_to_4096);
    }
