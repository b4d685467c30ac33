-- The loop that writes: the first p lines of the flat program stand behind the header's room, and what is not written yet is as it was.
-- What is pasted at p stands there in the flat program, so it is the line that comes next. Assumes nothing.
use Prim.Native.Nat.{ℕ, ◌+◌, ◌<◌, ◌≤◌}
use native.Mathlib.Omega.{arith}
use mathlib.Core.Path.{◌≡◌, refl, sym, ◌∙◌}
use mathlib.Core.List.{List}
use lib.ListN.{length}
use Rattle.scope.specs.Ram as ram
use Rattle.scope.specs.Ram.{Has, has, TargetWithin, TargetsWithin}
use Rattle.scope.specs.Book.{line_bytes, fields_of, book_of}
use Rattle.scope.specs.Flattening.{most_flat_lines, flat_length, flat_program, bytes_of_fields, as_line, flat_header, flat_book, flat_book_bytes, at_the_front_of}
use Rattle.scope.proofs.FlatLines.{length_flat_program}
use Rattle.scope.proofs.FlatBook.{flat_program_fits}
use Rattle.book.specs.declared.header.Counts.{Counts}
use Rattle.book.specs.Told.{instruction_told}
use Rattle.book.specs.Asked.{TakenWith}
use Rattle.book.specs.Written.{with_bytes, with_lines}
use Rattle.book.proofs.Written.{no_line_written, line_written, book_written}
use Rattle.flatten.specs.declared.copying.Place.{Place}
use Rattle.flatten.specs.declared.copying.Pasted.{Pasted}
use Rattle.flatten.specs.Copies.{CopyWithin, ComesTo, PastedAt}
use Rattle.flatten.proofs.Pasting.{first_place}

-- The first p flat lines are written, and the next one is where `here` starts.
pub record WrittenTo (b : List ℕ) (asked n : ℕ) (out₀ : List ℕ) (here : Place) (p : ℕ) (out : List ℕ) : Type 0 where
  pub upto : p ≤ n
  pub comes_to : ComesTo (flat_program (book_of b) asked) b here p
  pub room : flat_book_bytes n ≤ length out₀
  pub long : length out ≡ length out₀
  pub so_far : out ≡ with_lines out₀ p (flat_program (book_of b) asked)

pub none_written : (b : List ℕ) (asked n : ℕ) (out : List ℕ) (here : Place) → CopyWithin b asked 0 → flat_book_bytes n ≤ length out
    → here ≡ record { routine = asked; base = record { 0 = 0 }; line = record { 0 = 0 } } → WrittenTo b asked n out here 0 out
none_written b asked n out here whole room e =
    record { upto = omega arith; comes_to = first_place b asked whole here e; room = room; long = refl; so_far = no_line_written out _ }

wider : (m n : ℕ) (x : ram.Instruction) → m ≤ n → TargetWithin m x → TargetWithin n x
unfolding TargetWithin
wider m n (ram.INC r) h t = tt
wider m n (ram.DEC r l) h t = omega (arith, h, t)
wider m n (ram.GO_TO l) h t = omega (arith, h, t)

module _ (b : List ℕ) (c : Counts) (t : TakenWith b c) (asked : ℕ) (whole : CopyWithin b asked 0) (p : ℕ) (x : Pasted)
    (pasted : PastedAt (flat_program (book_of b) asked) b p x) where
  pub target_fits : TargetWithin most_flat_lines (instruction_told x.instruction)
  unfolding TargetsWithin
  target_fits =
      let few : flat_length (book_of b) asked ≤ most_flat_lines = omega (arith, whole.ends_within) in
      let fits = flat_program_fits b t.taken asked few in
      wider _ most_flat_lines _ (omega (arith, few, length_flat_program (book_of b) asked)) (fits.ours.targets_within p _ pasted.stands)

module _ (b : List ℕ) (asked n : ℕ) (out₀ : List ℕ) (here : Place) (p : ℕ) (out : List ℕ)
    (w : WrittenTo b asked n out₀ here p out) (low : p < n) where
  pub line_has_room : flat_book_bytes p + line_bytes ≤ length out
  unfolding flat_book_bytes
  line_has_room = omega (arith, w.room, w.long, low)

  pub one_more_written : (x : Pasted) (out' : List ℕ) → PastedAt (flat_program (book_of b) asked) b p x → length out' ≡ length out
      → out' ≡ with_bytes out (flat_book_bytes p) (bytes_of_fields (fields_of (as_line (instruction_told x.instruction))))
      → WrittenTo b asked n out₀ x.behind (p + 1) out'
  unfolding flat_book_bytes
  one_more_written x out' pasted same put =
      record {
        upto = omega (arith, low);
        comes_to = pasted.behind_it;
        room = w.room;
        long = same ∙ w.long;
        so_far = behind pasted.stands;
      }
    where
      behind : Has (flat_program (book_of b) asked) p (instruction_told x.instruction) → out' ≡ with_lines out₀ (p + 1) (flat_program (book_of b) asked)
      behind (has stands) = line_written p _ stands out₀ out out' w.so_far (omega (arith, w.room, low)) put

pub all_lines_written : (b : List ℕ) (asked n : ℕ) (out₀ : List ℕ) (here : Place) (p : ℕ) (out : List ℕ) → WrittenTo b asked n out₀ here p out → n ≤ p
    → out ≡ with_lines out₀ n (flat_program (book_of b) asked)
all_lines_written b asked n out₀ here p out w h =
    let end : p ≡ n = omega (arith, h, w.upto) in
    rw end at w.so_far

-- ---- the flat book

module _ (b : List ℕ) (asked : ℕ) (whole : CopyWithin b asked 0) (n : ℕ) (size : n ≡ flat_length (book_of b) asked) (out : List ℕ)
    (room : flat_book_bytes n ≤ length out) where
  pub few_lines : n ≤ most_flat_lines
  few_lines = omega (arith, size, whole.ends_within)

  pub header_has_room : flat_book_bytes 0 ≤ length out
  unfolding flat_book_bytes
  header_has_room = omega (arith, room)

  pub flat_book_written : (out₁ out₂ : List ℕ) → out₁ ≡ with_bytes out 0 (flat_header n) → out₂ ≡ with_lines out₁ n (flat_program (book_of b) asked)
      → out₂ ≡ at_the_front_of out (flat_book (flat_program (book_of b) asked))
  flat_book_written out₁ out₂ = book_written out out₁ out₂ n _ (size ∙ sym (length_flat_program (book_of b) asked)) room
