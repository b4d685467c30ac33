-- What a caller has in its output where flattening answers n: the flat book in front, behind it what was there, and at flat line i the
-- instruction that the flat program has there, every jump moved. The promise gives the bytes, and `scope` what they say. Assumes nothing.
use Rattle.std.specs.Prelude.{Ok}
use Prim.Native.Nat.{ℕ, ◌+◌, ◌<◌}
use native.Mathlib.Omega.{arith}
use mathlib.Core.Path.{◌≡◌, sym, ◌∙◌, ap}
use mathlib.Core.List.{List, ◌∷◌}
use lib.ListN.{length, take, drop, get_or}
use lib.Seq.{take_at, drop-append_seam, drop-cons}
use Rattle.scope.specs.Ram.{Program, Instruction, INC, Has, has}
use Rattle.scope.specs.Refusals.{pass, call_of}
use Rattle.scope.specs.Book.{Line, DEC, GO_TO, REPEAT, fields_of, fields_at, routine, book_of}
use Rattle.scope.specs.Flattening.{flat_length, start, copy_line, copy, flat_program, as_line, flat_book, flat_book_bytes, at_the_front_of, flatten_verdict, flatten_call}
use Rattle.scope.specs.FlatBook.{Says}
use Rattle.scope.specs.GivenByCalls.{Flattens}
use Rattle.scope.proofs.Verdicts.{accepted_only_where_passed, call_where_passed, then_passes}
use Rattle.scope.proofs.TakenBook.{taken_callees_below}
use Rattle.scope.proofs.GivenByCalls.{flattens_exactly_when}
use Rattle.scope.proofs.FlatLines.{length_flat_program, Stands, line_stands, repeat_looks, repeat_goes_back}
use Rattle.scope.proofs.WrittenBook.{length_flat_book, read_at}
use Rattle.scope.proofs.FlatBook.{flat_program_fits, flat_book_is_taken}
use Rattle.book.specs.Told.{result_told, number_told}

-- This is what a caller learns of `flatten` where it answers n.
module _ (b : List ℕ) (k n : ℕ) (out out' : List ℕ) (told : record { answer = number_told (Ok n); left = out' } ≡ flatten_call b k out) where
  abbrev flat : Program
  flat = flat_program (book_of b) k

  passed : (flatten_verdict b k (length out) ≡ pass) × (flat_length (book_of b) k ≡ n)
  unfolding result_told flatten_call call_of
  passed = accepted_only_where_passed (flatten_verdict b k (length out)) (ap (λ c. c.answer) (sym told))

  -- The routine flattens, and n is its length.
  pub routine_flattens : Flattens b k
  unfolding flatten_verdict
  routine_flattens = (flattens_exactly_when b k).0 (then_passes _ passed.0).0

  pub n_is_its_length : n ≡ length flat
  n_is_its_length = sym (length_flat_program (book_of b) k ∙ passed.1)

  written : out' ≡ at_the_front_of out (flat_book flat)
  unfolding flatten_call
  written = ap (λ c. c.left) (told ∙ call_where_passed _ _ _ passed.0)

  size : length (flat_book flat) ≡ flat_book_bytes n
  size = length_flat_book flat ∙ ap flat_book_bytes (sym n_is_its_length)

  -- The first 16 + 4n bytes are the flat book, which can be run; ..
  pub flat_book_in_front : take (flat_book_bytes n) out' ≡ flat_book flat
  unfolding at_the_front_of
  flat_book_in_front = ap (take (flat_book_bytes n)) written ∙ take_at (flat_book flat) (drop (length (flat_book flat)) out) (flat_book_bytes n) size

  pub front_says_the_flat_program : Says (take (flat_book_bytes n) out') flat
  front_says_the_flat_program = rw flat_book_in_front (flat_book_is_taken b routine_flattens.taken k routine_flattens.not_too_long)

  -- .. the bytes behind them stay.
  pub bytes_behind_stay : drop (flat_book_bytes n) out' ≡ drop (flat_book_bytes n) out
  unfolding at_the_front_of
  bytes_behind_stay =
      rw (sym size) (ap (drop (length (flat_book flat))) written ∙ drop-append_seam (flat_book flat) (drop (length (flat_book flat)) out))

  -- What stands at flat line i of the output.
  pub flat_line_at : (i : ℕ) (x : Instruction) → Has flat i x → fields_at (take (flat_book_bytes n) out') i ≡ fields_of (as_line x)
  flat_line_at i x (has e) =
      rw flat_book_in_front (read_at flat (flat_program_fits b routine_flattens.taken k routine_flattens.not_too_long) i e)

  -- For each i below n the flat program has one.
  pub flat_line_there : (i : ℕ) → i < n → (x : Instruction) × Has flat i x
  flat_line_there i h = (get_or flat i (INC 0), has (drop-cons flat i (INC 0) (omega (arith, h, n_is_its_length))))

  -- A jump that line i of routine c makes, in a copy of the routine that begins at base: it leads to where its line now stands. (The asked
  -- routine has a copy that begins at 0: `whole_copy_stands` of `scope`.)
  module _ (c base i p t : ℕ) {rest : List Line} (stands : Stands flat base (copy (book_of b) c base)) (there : p ≡ base + start (book_of b) c i) where
    line_left : {l : Line} → drop i (routine (book_of b) c) ≡ l ∷ rest → Stands flat p (copy_line (book_of b) (copy (book_of b)) c base p l)
    line_left e = line_stands (book_of b) (taken_callees_below b routine_flattens.taken) c i stands e there

    pub DEC_is_moved : (r : ℕ) → drop i (routine (book_of b) c) ≡ DEC r t ∷ rest
        → fields_at (take (flat_book_bytes n) out') p ≡ fields_of (DEC r (base + start (book_of b) c t))
    unfolding copy_line as_line
    DEC_is_moved r e = flat_line_at p _ (has (line_left e).there)

    pub GO_TO_is_moved : drop i (routine (book_of b) c) ≡ GO_TO t ∷ rest
        → fields_at (take (flat_book_bytes n) out') p ≡ fields_of (GO_TO (base + start (book_of b) c t))
    unfolding copy_line as_line
    GO_TO_is_moved e = flat_line_at p _ (has (line_left e).there)

    -- A REPEAT of register j that starts at p, over length s, becomes DEC j to p+s+2, .., then GO TO p at p+s+1.
    module _ (j s : ℕ) (e : drop i (routine (book_of b) c) ≡ REPEAT j t ∷ rest) (over : s ≡ flat_length (book_of b) t) where
      pub REPEAT_starts_with_DEC : fields_at (take (flat_book_bytes n) out') p ≡ fields_of (DEC j (p + s + 2))
      unfolding as_line
      REPEAT_starts_with_DEC = rw over (flat_line_at p _ (has (repeat_looks (book_of b) c base p j t (line_left e)).there))

      pub REPEAT_ends_with_GO_TO : (q : ℕ) → q ≡ p + s + 1 → fields_at (take (flat_book_bytes n) out') q ≡ fields_of (GO_TO p)
      unfolding as_line
      REPEAT_ends_with_GO_TO q end =
          flat_line_at q _ (has (repeat_goes_back (book_of b) c base p j t (line_left e) q (omega (arith, over, end))).there)
