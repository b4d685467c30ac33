-- A flat book written a piece at a time: each piece stands behind the last, and what is not written yet is as it was.
-- Writing at the end of what was written is writing both at once (`written_on`). Assumes nothing.
use mir.Syntax.{w16}
use mir.Val.{Fits}
use Prim.Native.Nat.{ℕ, ◌+◌, ◌-◌, ◌*◌, ◌/◌, ◌%◌, ◌≤◌}
use native.Mathlib.Omega.{arith}
use native.Mathlib.Numerals.{add-one}
use mathlib.Core.Path.{◌≡◌, refl, sym, ◌∙◌, ap}
use mathlib.Core.List.{List, [], ◌∷◌, ◌++◌, append_assoc, append-nil}
use borrow.Rule.Slice.PartMut.{mid_of, put_mid}
use lib.ListN.{length, take, drop, get_or, length-append, length-drop, take-append-drop, drop_of_length-le}
use lib.Seq.{length-take-le, take_all, take-suc, take_at, drop-append-add, drop-cons, drop-drop}
use Rattle.scope.specs.Book.{LineFields, fields_of, two_bytes, two_bytes_each, the_format, header_bytes, line_table_due, length_due}
use Rattle.scope.specs.Ram as ram
use Rattle.scope.specs.Ram.{Program, TargetWithin}
use Rattle.scope.specs.Flattening.{most_flat_lines, bytes_of_fields, as_line, bytes_of_program, flat_header, flat_book, flat_book_bytes, at_the_front_of}
use Rattle.scope.proofs.Lists.{stands_below}
use Rattle.scope.proofs.WrittenBook.{length_of_bytes}
use Rattle.book.specs.declared.lines.Reg.{Reg}
use Rattle.book.specs.declared.flat.FlatLine.{FlatLine}
use Rattle.book.specs.declared.flat.Instruction.{Instruction}
use Rattle.book.specs.declared.flat.Instruction.TheVariants as instruction
use Rattle.book.specs.declared.lines.Fields.{Fields}
use Rattle.book.specs.Told.{instruction_told, fields_told}
use Rattle.book.specs.Written.{with_bytes, with_lines}

-- bytes copied over the part of the output that begins at a place
pub bytes_put : (out bytes part : List ℕ) (at n : ℕ) → at + n ≤ length out → length part ≡ length (mid_of at (at + n - at) out) → part ≡ bytes
    → put_mid at (at + n - at) out part ≡ with_bytes out at bytes
unfolding with_bytes
bytes_put out bytes part at n room long same =
    let size : at + n - at ≡ n = omega arith in
    let whole : length bytes ≡ n =
    ap length (sym same) ∙ long ∙ length-take-le (at + n - at) (drop at out) (omega (arith, room, length-drop at out)) ∙ size in
    rw (size, same, sym whole, drop-drop (length bytes) at out) (sym (append_assoc (take at out) bytes _))

-- Where nothing is written, all is as it was; ..
pub nothing_written : (out : List ℕ) (at : ℕ) → out ≡ with_bytes out at []
unfolding with_bytes
nothing_written out at =
    let end : at + 0 ≡ at = omega arith in
    sym (rw (append-nil (take at out), end) (take-append-drop at out))

-- .. and where all is written, only that is there.
pub all_written : (out bytes : List ℕ) → length bytes ≡ length out → with_bytes out 0 bytes ≡ bytes
unfolding with_bytes
all_written out bytes e = rw (drop_of_length-le out {i = 0 + length bytes} (omega arith)) (append-nil bytes)

-- Writing at the end of what was written is writing both at once.
pub written_on : (out xs ys : List ℕ) (at m : ℕ) → m ≡ at + length xs → m ≤ length out
    → with_bytes (with_bytes out at xs) m ys ≡ with_bytes out at (xs ++ ys)
unfolding with_bytes
written_on out xs ys at m e h =
    let front = take at out ++ xs in
    let rest = drop (at + length xs) out in
    let size : length front ≡ m = length-append (take at out) xs ∙ ap (λ n. n + length xs) (length-take-le at out (omega arith)) ∙ sym e in
    let kept : take m (front ++ rest) ≡ front = take_at front rest m size in
    let behind : drop (m + length ys) (front ++ rest) ≡ drop (length ys) rest =
    ap (λ n. drop (n + length ys) (front ++ rest)) (sym size) ∙ drop-append-add front rest (length ys) in
    let end : at + length xs + length ys ≡ at + length (xs ++ ys) = omega (arith, length-append xs ys) in
    rw (kept, behind, drop-drop, end) (simp append_assoc)

-- the header of a flat book, two numbers at a time
pub header_written : (o₀ o₁ o₂ o₃ o₄ : List ℕ) (n : ℕ) → 16 ≤ length o₀
    → o₁ ≡ with_bytes o₀ 0 (two_bytes_each (the_format ∷ 1 ∷ []))
    → o₂ ≡ with_bytes o₁ 4 (two_bytes_each (n ∷ header_bytes ∷ []))
    → o₃ ≡ with_bytes o₂ 8 (two_bytes_each (16 ∷ (16 + 4 * n) ∷ []))
    → o₄ ≡ with_bytes o₃ 12 (two_bytes_each (0 ∷ n ∷ []))
    → o₄ ≡ with_bytes o₀ 0 (flat_header n)
unfolding flat_header two_bytes_each two_bytes length_due line_table_due
header_written o₀ o₁ o₂ o₃ o₄ n h p q r s =
    rw (s, r, q, p, written_on o₀ _ _ 0 4 refl (omega arith), written_on o₀ _ _ 0 8 refl (omega arith), written_on o₀ _ _ 0 12 refl (omega arith))

-- ---- a target fits its two bytes

module _ (x : Instruction) (h : TargetWithin most_flat_lines (instruction_told x)) where
  pub DEC_target_fits : {g : Reg} {u : FlatLine} → x ≡ instruction.Dec g u → Fits w16 u.0
  unfolding TargetWithin instruction_told
  DEC_target_fits e =
      let within = rw e at h in
      record { fits = omega (arith, within) }

  pub GO_TO_target_fits : {u : FlatLine} → x ≡ instruction.GoTo u → Fits w16 u.0
  unfolding TargetWithin instruction_told
  GO_TO_target_fits e =
      let within = rw e at h in
      record { fits = omega (arith, within) }

-- ---- pieces, one after another

-- A list of bytes that is made a piece for each member of a list.
module _ {A : Type 0} (piece : A → List ℕ) (pieces : List A → List ℕ) (none : pieces [] ≡ [])
    (one : (x : A) (xs : List A) → pieces (x ∷ xs) ≡ piece x ++ pieces xs) where
  pieces_of_both : (xs ys : List A) → pieces (xs ++ ys) ≡ pieces xs ++ pieces ys
  pieces_of_both [] ys = rw none
  pieces_of_both (x ∷ xs) ys = rw (one x (xs ++ ys), one x xs, pieces_of_both xs ys) (sym (append_assoc (piece x) _ _))

  module _ (p : ℕ) (xs : List A) {x : A} {rest : List A} (stands : drop p xs ≡ x ∷ rest) where
    one_more_piece : pieces (take (p + 1) xs) ≡ pieces (take p xs) ++ piece x
    one_more_piece =
        let below = stands_below xs p stands in
        let s = drop-cons xs p x below in
        let same : get_or xs p x ≡ x = cc in
        ap (λ k. pieces (take k xs)) (add-one p)
        ∙ ap pieces (take-suc xs p x below ∙ ap (λ y. take p xs ++ (y ∷ [])) same)
        ∙ pieces_of_both (take p xs) (x ∷ [])
        ∙ ap (λ bs. pieces (take p xs) ++ bs) (one x [] ∙ ap (λ bs. piece x ++ bs) none ∙ append-nil _)

    -- The piece of member p behind those before it.
    pub piece_written : (o out out' : List ℕ) (at m : ℕ) → out ≡ with_bytes o at (pieces (take p xs)) → m ≡ at + length (pieces (take p xs))
        → m ≤ length o → out' ≡ with_bytes out m (piece x) → out' ≡ with_bytes o at (pieces (take (p + 1) xs))
    piece_written o out out' at m so_far place room put =
        put ∙ rw so_far (written_on o _ _ at m place room ∙ ap (with_bytes o at) (sym one_more_piece))

-- ---- its lines

pub no_line_written : (out : List ℕ) (xs : Program) → out ≡ with_lines out 0 xs
unfolding with_lines bytes_of_program
no_line_written out xs = nothing_written out (flat_book_bytes 0)

-- Line p behind the first p: so p + 1 are written.
pub line_written : (p : ℕ) (xs : Program) {x : ram.Instruction} {rest : Program} → drop p xs ≡ x ∷ rest → (o out out' : List ℕ)
    → out ≡ with_lines o p xs → flat_book_bytes p ≤ length o
    → out' ≡ with_bytes out (flat_book_bytes p) (bytes_of_fields (fields_of (as_line x))) → out' ≡ with_lines o (p + 1) xs
unfolding with_lines flat_book_bytes bytes_of_program
line_written p xs stands o out out' so_far room put =
    let long = length_of_bytes (take p xs) in
    let size = length-take-le p xs (omega (arith, stands_below xs p stands)) in
    piece_written (λ x. bytes_of_fields (fields_of (as_line x))) bytes_of_program refl (λ x xs. refl) p xs stands o out out' 16 (16 + 4 * p) so_far (omega (arith, long, size)) room put

-- The header and then all lines: so the flat book stands at the front of the output.
pub book_written : (o out out' : List ℕ) (n : ℕ) (xs : Program) → n ≡ length xs → flat_book_bytes n ≤ length o
    → out ≡ with_bytes o 0 (flat_header n) → out' ≡ with_lines out n xs → out' ≡ at_the_front_of o (flat_book xs)
unfolding with_lines with_bytes at_the_front_of flat_book flat_header two_bytes_each two_bytes flat_book_bytes
book_written o out out' n xs size room header rest =
    let whole : take n xs ≡ xs = take_all n xs (omega arith) in
    let from_0 : 0 + length (flat_book xs) ≡ length (flat_book xs) = omega arith in
    rest ∙ rw (header, whole, size) (written_on o (flat_header (length xs)) (bytes_of_program xs) 0 16 refl (omega arith)
    ∙ ap (λ k. flat_book xs ++ drop k o) from_0)

-- the four bytes of a line's fields, put where flat line i stands
pub fields_put : (out out' : List ℕ) (i at l h : ℕ) (f : Fields) (x : LineFields) → fields_told f ≡ x → l ≡ f.operand % 256 → h ≡ f.operand / 256 % 256
    → at ≡ flat_book_bytes i → out' ≡ with_bytes out at (f.kind ∷ f.register ∷ l ∷ h ∷ [])
    → out' ≡ with_bytes out (flat_book_bytes i) (bytes_of_fields x)
unfolding fields_told bytes_of_fields two_bytes
fields_put out out' i at l h f x told low high here put = put ∙ rw (low, high, here, sym told) refl
