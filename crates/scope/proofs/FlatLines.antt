-- What stands where in a flat program: a copy is as long as the lengths say, and each line's copy stands where the line starts.
-- A copy is its lines' copies one after another, so a line's copy stands behind the sum of the lengths before it.
use Prim.Native.Nat.{ℕ, zero, suc, ◌+◌, ◌≤◌}
use native.Mathlib.Omega.{arith}
use mathlib.Core.Path.{◌≡◌, refl, sym, ◌∙◌, ap}
use mathlib.Core.List.{List, [], ◌∷◌, ◌++◌, append_assoc, append-nil, cons≢nil}
use lib.ListN.{length, take, drop, length-append}
use lib.Seq.{take-nil, drop-drop, drop-append_seam}
use Rattle.scope.specs.Ram as ram
use Rattle.scope.specs.Ram.{Program}
use Rattle.scope.specs.Book.{Line, INC, DEC, GO_TO, CALL, REPEAT, Book, routine, CalleesBelow, said_below, from_the_lowest_up}
use Rattle.scope.specs.Flattening.{line_length, sum_of, length_by, flat_length, start, copy_line, copy_lines, copy_by, copy, flat_program}
use Rattle.scope.proofs.Lists.{nothing_stands, said_to_the_next}
use Rattle.scope.proofs.Lowest.{flat_length_by_the_rule, copy_by_the_rule}

-- ---- sums up to a line

module _ (of_line : Line → ℕ) where
  pub sum_to_the_next :
      {l : Line} {rest : List Line} (ls : List Line) (i : ℕ) → drop i ls ≡ l ∷ rest
      → sum_of of_line (take (suc i) ls) ≡ sum_of of_line (take i ls) + of_line l
  unfolding sum_of
  sum_to_the_next =
      said_to_the_next (sum_of of_line) of_line ◌+◌ (λ x xs. refl) (λ a. omega arith) (λ a. omega arith) (λ a b c. omega arith)

  sum_to_the_end : (ls : List Line) (i : ℕ) → drop i ls ≡ [] → sum_of of_line (take i ls) ≡ sum_of of_line ls
  unfolding sum_of
  sum_to_the_end [] i e = ap (sum_of of_line) (take-nil i)
  sum_to_the_end (x ∷ ls) zero e = absurd (cons≢nil e)
  sum_to_the_end (x ∷ ls) (suc i) e = omega (arith, sum_to_the_end ls i e)

  up_to_a_line : (ls : List Line) (i : ℕ) → sum_of of_line (take i ls) ≤ sum_of of_line ls
  unfolding sum_of
  up_to_a_line ls zero = omega arith
  up_to_a_line [] (suc i) = omega arith
  up_to_a_line (l ∷ ls) (suc i) = omega (arith, up_to_a_line ls i)

-- ---- a copy is as long as the lengths say

module _ (book : Book) where
  length_copy_line :
      (copy : ℕ → ℕ → Program) (length_of : ℕ → ℕ) (as_long : (c b : ℕ) → length (copy c b) ≡ length_of c) (k b p : ℕ) (l : Line)
      → length (copy_line book copy k b p l) ≡ line_length length_of l
  unfolding copy_line line_length
  length_copy_line copy length_of as_long k b p (INC r) = refl
  length_copy_line copy length_of as_long k b p (DEC r t) = refl
  length_copy_line copy length_of as_long k b p (GO_TO t) = refl
  length_copy_line copy length_of as_long k b p (CALL c) = as_long c p
  length_copy_line copy length_of as_long k b p (REPEAT r c) = rw (length-append (copy c (p + 1)) _, as_long c (p + 1)) (omega arith)

  length_copy_lines :
      (copy : ℕ → ℕ → Program) (length_of : ℕ → ℕ) (as_long : (c b : ℕ) → length (copy c b) ≡ length_of c) (k b p : ℕ) (ls : List Line)
      → length (copy_lines book copy k b p ls) ≡ sum_of (line_length length_of) ls
  unfolding copy_lines sum_of
  length_copy_lines copy length_of as_long k b p [] = refl
  length_copy_lines copy length_of as_long k b p (l ∷ ls) =
      let next = p + line_length (flat_length book) l in
      rw (
        length-append (copy_line book copy k b p l) (copy_lines book copy k b next ls),
        length_copy_line copy length_of as_long k b p l,
        length_copy_lines copy length_of as_long k b next ls,
      ) refl

  length_copy_below : (n k b : ℕ) → length (said_below (λ b. []) (copy_by book) n k b) ≡ said_below 0 (length_by book) n k
  unfolding said_below copy_by length_by
  length_copy_below zero k b = refl
  length_copy_below (suc n) k b =
      length_copy_lines (said_below (λ b. []) (copy_by book) n) (said_below 0 (length_by book) n) (length_copy_below n) k b b (routine book k)

  pub length_copy : (k b : ℕ) → length (copy book k b) ≡ flat_length book k
  unfolding copy flat_length from_the_lowest_up
  length_copy k b = length_copy_below (suc k) k b

  pub length_flat_program : (k : ℕ) → length (flat_program book k) ≡ flat_length book k
  unfolding flat_program
  length_flat_program k = length_copy k 0

  pub length_line : (k b p : ℕ) (l : Line) → length (copy_line book (copy book) k b p l) ≡ line_length (flat_length book) l
  length_line = length_copy_line (copy book) (flat_length book) length_copy

  -- A line starts at the sum of the lengths before it.
  pub first_start : (k : ℕ) → start book k 0 ≡ 0
  unfolding start sum_of
  first_start k = refl

  pub next_start :
      {l : Line} {rest : List Line} (k i : ℕ) → drop i (routine book k) ≡ l ∷ rest
      → start book k (suc i) ≡ start book k i + line_length (flat_length book) l
  unfolding start
  next_start k i e = sum_to_the_next (line_length (flat_length book)) (routine book k) i e

-- ---- what stands at an address

-- from line p of the program on these instructions stand, and others behind them
pub record Stands (P : Program) (p : ℕ) (xs : Program) : Type 0 where
  pub behind : Program
  pub there : drop p P ≡ xs ++ behind

module _ {P : Program} {p : ℕ} where
  pub front_stands : (xs ys : Program) → Stands P p (xs ++ ys) → Stands P p xs
  front_stands xs ys s = record { behind = ys ++ s.behind; there = s.there ∙ append_assoc xs ys s.behind }

  pub rest_stands : (xs ys : Program) (q : ℕ) → Stands P p (xs ++ ys) → q ≡ p + length xs → Stands P q ys
  rest_stands xs ys q s e =
      record {
        behind = s.behind;
        there = rw e
            (sym (drop-drop (length xs) p P) ∙ ap (drop (length xs)) (s.there ∙ append_assoc xs ys s.behind)
            ∙ drop-append_seam xs (ys ++ s.behind));
      }

-- The flat program of a routine is the copy of it that begins at 0.
pub whole_copy_stands : (book : Book) (k : ℕ) → Stands (flat_program book k) 0 (copy book k 0)
unfolding flat_program
whole_copy_stands book k = record { behind = []; there = sym (append-nil (copy book k 0)) }

module _ (book : Book) (ok : CalleesBelow book) where
  -- the end starts at the sum of them all
  pub end_start : (k i : ℕ) → drop i (routine book k) ≡ [] → start book k i ≡ flat_length book k
  unfolding start length_by
  end_start k i e = sum_to_the_end (line_length (flat_length book)) (routine book k) i e ∙ sym (flat_length_by_the_rule book ok k)

  -- and no line starts behind it
  pub start_within : (k i : ℕ) → start book k i ≤ flat_length book k
  unfolding start length_by
  start_within k i = rw (flat_length_by_the_rule book ok k) (up_to_a_line (line_length (flat_length book)) (routine book k) i)

  lines_stand : {P : Program} {l : Line} {rest : List Line} (k b q p : ℕ) (ls : List Line) (i : ℕ)
      → Stands P q (copy_lines book (copy book) k b q ls) → drop i ls ≡ l ∷ rest → p ≡ q + sum_of (line_length (flat_length book)) (take i ls)
      → Stands P p (copy_line book (copy book) k b p l)
  unfolding copy_lines sum_of
  lines_stand k b q p [] i s e a = nothing_stands i e
  lines_stand {l = l} k b q p (x ∷ ls) zero s e a =
      let z : x ≡ l = cc in
      let w : p ≡ q = omega arith in
      let next = q + line_length (flat_length book) x in
      rw (w, sym z) (front_stands (copy_line book (copy book) k b q x) (copy_lines book (copy book) k b next ls) s)
  lines_stand {l = l} k b q p (x ∷ ls) (suc i) s e a =
      let next = q + line_length (flat_length book) x in
      let behind : next ≡ q + length (copy_line book (copy book) k b q x) = rw (length_line book k b q x) refl in
      lines_stand k b next p ls i
      (rest_stands (copy_line book (copy book) k b q x) (copy_lines book (copy book) k b next ls) next s behind) e (omega arith)

  -- Line i of a copy of routine k that begins at b stands at b plus where the line starts.
  pub line_stands : {P : Program} {l : Line} {rest : List Line} {b p : ℕ} (k i : ℕ)
      → Stands P b (copy book k b) → drop i (routine book k) ≡ l ∷ rest → p ≡ b + start book k i
      → Stands P p (copy_line book (copy book) k b p l)
  unfolding start copy_by
  line_stands {b = b} {p = p} k i s e a = lines_stand k b b p (routine book k) i (rw (copy_by_the_rule book ok k) at s) e a

-- ---- what a REPEAT leaves

module _ (book : Book) {P : Program} (k b p r c : ℕ) (s : Stands P p (copy_line book (copy book) k b p (REPEAT r c))) where
  -- DEC j to p+s+2, ..
  pub repeat_looks : Stands P p (ram.DEC r (p + flat_length book c + 2) ∷ [])
  unfolding copy_line
  repeat_looks = front_stands (ram.DEC r (p + flat_length book c + 2) ∷ []) (copy book c (p + 1) ++ (ram.GO_TO p ∷ [])) s

  behind_the_look : Stands P (p + 1) (copy book c (p + 1) ++ (ram.GO_TO p ∷ []))
  unfolding copy_line
  behind_the_look = rest_stands (ram.DEC r (p + flat_length book c + 2) ∷ []) (copy book c (p + 1) ++ (ram.GO_TO p ∷ [])) (p + 1) s refl

  -- .. the copy from p+1, ..
  pub repeated_copy_stands : Stands P (p + 1) (copy book c (p + 1))
  repeated_copy_stands = front_stands (copy book c (p + 1)) (ram.GO_TO p ∷ []) behind_the_look

  -- .. then GO TO p at p+s+1.
  pub repeat_goes_back : (q : ℕ) → q ≡ p + flat_length book c + 1 → Stands P q (ram.GO_TO p ∷ [])
  repeat_goes_back q e = rest_stands (copy book c (p + 1)) (ram.GO_TO p ∷ []) q behind_the_look (omega (arith, e, length_copy book c (p + 1)))
