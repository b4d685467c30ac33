-- What stands in a row of routines, and in the table of starts, while they are filled from the lowest routine up.
-- A routine uses lower ones only, so what it looks up is there; the parts of the table lie one behind the other. Assumes nothing.
use mir.Syntax.{w32, w64}
use mir.Val.{Fits}
use Prim.Native.Nat.{ℕ, ◌+◌, ◌-◌, ◌*◌, ◌<◌, ◌≤◌, min}
use native.Mathlib.Omega.{arith}
use native.Mathlib.Decide.{ℕ_discrete}
use native.Mathlib.Numerals.{add-one}
use mathlib.Core.Path.{◌≡◌, refl, sym, ◌∙◌, ap}
use mathlib.Core.Logic.{◌⊎◌, inl, inr, ⊎_elim}
use mathlib.Core.List.{List}
use lib.ListN.{length, get_or, set, drop, length-set, length-drop}
use lib.Seq.{get_or-set_same, get_or-set_other, get_or-take, get_or-drop, length-take-le}
use borrow.Rule.Slice.PartMut.{mid_of}
use Rattle.std.proofs.lemmas.List.{get_or_default}
use Rattle.scope.specs.Book as book
use Rattle.scope.specs.Book.{most_routines, routines, first_line, first_line_due, count, line_of, fields_in, book_of}
use Rattle.scope.specs.Flattening.{line_length, flat_length, start}
use Rattle.scope.proofs.Verdicts.{one_holds, below_tells}
use Rattle.scope.proofs.TakenBook.{taken_book, taken_callees_below, line_in_the_book, routine_ends}
use Rattle.scope.proofs.FlatLines.{first_start, next_start, end_start}
use Rattle.book.specs.declared.header.Counts.{Counts}
use Rattle.book.specs.declared.lines.Reg.{Reg}
use Rattle.book.specs.declared.lines.Line.{Line}
use Rattle.book.specs.declared.lines.Line.TheVariants as line
use Rattle.book.specs.Told.{line_told}
use Rattle.book.specs.Asked.{TakenWith}
use Rattle.book.proofs.Scanned.{below_R}
use Rattle.book.proofs.Fits.{holds_of_the_line, callee_below}
use Rattle.flatten.specs.Rows.{length_cap, Known, Row, slot, due, table_length, Filled, Measured, Table, MeasuredAll, StartsOf}

-- ---- a row

module _ {A : Type 0} (none : A) (Is : ℕ → A → Type 0) (row : List A) where
  pub empty_row : length row ≡ most_routines → Known none Is 0 row
  empty_row long = record { long = long; each = λ c h. absurd (omega arith) }

  -- Every routine of a book has a place there.
  pub has_a_place : (k r : ℕ) (b : List ℕ) (c : Counts) → TakenWith b c → Known none Is k row → r < c.routines → r < length row
  has_a_place k r b c t w h = omega (arith, h, w.long, t.tabled.sized.routines_to_32)

  pub one_more_routine : (k : ℕ) (a : A) → Known none Is k row → k < most_routines → Is k a → Known none Is (k + 1) (set row k a)
  one_more_routine k a w h e =
      record { long = length-set row k a ∙ w.long; each = λ c low. put c low (ℕ_discrete c k) }
    where
      put : (c : ℕ) → c < k + 1 → Dec (c ≡ k) → Is c (get_or (set row k a) c none)
      put c low (yes same) = rw (same, get_or-set_same row k a none (omega (arith, h, w.long))) e
      put c low (no other) = rw (get_or-set_other row k c a none other) (w.each c (omega (arith, low, other)))

-- A row that is filled up to the asked routine: what is known of those below k.
pub record KnownTo {A : Type 0} (none : A) (Is : ℕ → A → Type 0) (asked k : ℕ) (row : List A) : Type 0 where
  pub upto : k ≤ asked + 1
  pub below : Known none Is k row

module _ {A : Type 0} (none : A) (Is : ℕ → A → Type 0) (asked : ℕ) (row : List A) where
  pub none_known_yet : length row ≡ most_routines → KnownTo none Is asked 0 row
  none_known_yet long = record { upto = omega arith; below = empty_row none Is row long }

  module _ (b : List ℕ) (c : Counts) (t : TakenWith b c) (h : asked < c.routines) (k : ℕ) (s : KnownTo none Is asked k row) where
    pub up_to_the_asked : k ≤ asked → k < c.routines
    up_to_the_asked g = omega (arith, g, h)

    pub one_more_known : (a : A) → k ≤ asked → Is k a → KnownTo none Is asked (k + 1) (set row k a)
    one_more_known a g e =
        record {
          upto = omega (arith, g);
          below = one_more_routine none Is row k a s.below (omega (arith, g, h, t.tabled.sized.routines_to_32)) e;
        }

-- Line j of routine k is l, and the row has what is said of the routines below k: so it has what is said of the one that the line uses.
module _ (b : List ℕ) (c : Counts) (l : Line) (k j : ℕ) (t : TakenWith b c) (h : k < c.routines) (s : j < count b k)
    (e : line_told l ≡ line_of (fields_in b k j)) where
  -- What is said of a line of this kind is said of the line.
  pub said_of_the_line : (f : book.Line → ℕ) (cap n : ℕ) {m : Line} → l ≡ m → n ≡ min (f (line_told m)) cap
      → n ≡ min (f (line_of (fields_in b k j))) cap
  said_of_the_line f cap n d g = holds_of_the_line b c l k j t h s e (λ x. n ≡ min (f x) cap) d g

  pub length_is : (n : ℕ) {m : Line} → l ≡ m → n ≡ min (line_length (flat_length (book_of b)) (line_told m)) length_cap
      → n ≡ min (line_length (flat_length (book_of b)) (line_of (fields_in b k j))) length_cap
  length_is = said_of_the_line (line_length (flat_length (book_of b))) length_cap

  module _ {A : Type 0} (none : A) (Is : ℕ → A → Type 0) (row : List A) (w : Known none Is k row) where
    module _ {q : ℕ} (d : (l ≡ line.Call q) ⊎ ((g : Reg) × (l ≡ line.Repeat g q))) where
      pub callee_in_the_row : q < length row
      callee_in_the_row = has_a_place none Is row k _ b c t w (omega (arith, callee_below b c l k j t h s e d, h))

      pub callee_looked_up : Is q (get_or row q none)
      callee_looked_up = w.each _ (callee_below b c l k j t h s e d)

    pub CALL_in_the_row : {q : ℕ} → l ≡ line.Call q → q < length row
    CALL_in_the_row d = callee_in_the_row (inl d)

    pub REPEAT_in_the_row : {g : Reg} {q : ℕ} → l ≡ line.Repeat g q → q < length row
    REPEAT_in_the_row d = callee_in_the_row (inr (_, d))

    pub CALL_looked_up : {q : ℕ} → l ≡ line.Call q → Is q (get_or row q none)
    CALL_looked_up d = callee_looked_up (inl d)

    pub REPEAT_looked_up : {g : Reg} {q : ℕ} → l ≡ line.Repeat g q → Is q (get_or row q none)
    REPEAT_looked_up d = callee_looked_up (inr (_, d))

  -- CALL the length of the routine; REPEAT that length plus 2.
  module _ (row : List ℕ) (w : Row (flat_length (book_of b)) length_cap k row) where
    pub CALL_length : {q : ℕ} → l ≡ line.Call q → get_or row q 0 ≡ min (flat_length (book_of b) q) length_cap
    CALL_length = CALL_looked_up 0 _ row w

    module _ {g : Reg} {q : ℕ} (d : l ≡ line.Repeat g q) where
      looked_up : get_or row q 0 ≡ min (flat_length (book_of b) q) length_cap
      looked_up = REPEAT_looked_up 0 _ row w d

      pub REPEAT_length_fits : Fits w32 (get_or row q 0 + 2)
      REPEAT_length_fits = record { fits = omega (arith, looked_up) }

      pub REPEAT_length : (n : ℕ) → n ≡ min (get_or row q 0 + 2) length_cap
          → n ≡ min (line_length (flat_length (book_of b)) (line_of (fields_in b k j))) length_cap
      unfolding line_length line_told
      REPEAT_length n f = length_is n d (omega (arith, f, looked_up))

-- ---- the table of starts

pub part_is : (b : List ℕ) (k m n : ℕ) → m ≡ first_line b k → n ≡ m + k → n ≡ slot b k 0
unfolding slot
part_is b k m n e f = omega (arith, e, f)

module _ (b : List ℕ) (c : Counts) (k : ℕ) (t : TakenWith b c) (h : k < c.routines) where
  here : k < routines b
  here = below_R k t.tabled.sized h

  -- The parts of the table lie one behind the other, so no two lines share a slot.
  same_slot : {r i j : ℕ} → r < routines b → i ≤ count b r → j ≤ count b k → slot b r i ≡ slot b k j → (r ≡ k) × (i ≡ j)
  unfolding slot
  same_slot {r} {i} {j} g m n e =
      let T = taken_book b t.taken in
      ⊎_elim (λ (low : r < k). absurd (omega (arith, m, e, T.in_order r k low here))) (λ (not_low : k ≤ r).
      ⊎_elim (λ (high : k < r). absurd (omega (arith, n, e, T.in_order k r high g))) (λ (not_high : r ≤ k).
      let same : r ≡ k = omega arith in
      let first : first_line b r ≡ first_line b k = ap (first_line b) same in
      (same, omega (arith, e, first))) (one_holds (below_tells k r))) (one_holds (below_tells r k))

  module _ (j sum : ℕ) (there : j < count b k) (so_far : sum ≡ min (start (book_of b) k j) length_cap) (m : ℕ)
      (long : m ≡ min (line_length (flat_length (book_of b)) (line_of (fields_in b k j))) length_cap) where
    pub next_start_is : (n : ℕ) → n ≡ min (sum + m) length_cap → n ≡ min (start (book_of b) k (j + 1)) length_cap
    next_start_is n e =
        let next = next_start (book_of b) k j (line_in_the_book b k j here there) in
        rw (add-one j) (omega (arith, so_far, long, e, next))

  module _ (j q v : ℕ) (starts : List ℕ) (n : j ≤ count b k) (room : q < length starts) (f : Filled b (slot b k j) starts) (at : q ≡ slot b k j) where
    one_more_start : v ≡ min (start (book_of b) k j) length_cap → Filled b (slot b k j + 1) (set starts q v)
    one_more_start e =
        record { each = λ r i g m low. put r i g m low (ℕ_discrete (slot b r i) q) }
      where
        put : (r i : ℕ) → r < routines b → i ≤ count b r → slot b r i < slot b k j + 1 → Dec (slot b r i ≡ q)
            → get_or (set starts q v) (slot b r i) 0 ≡ min (start (book_of b) r i) length_cap
        put r i g m low (yes same) =
            let (to_k, to_j) = same_slot g m n (same ∙ at) in
            rw (same, to_k, to_j) (get_or-set_same starts q v 0 room ∙ e)
        put r i g m low (no other) = get_or-set_other starts q (slot b r i) v 0 other ∙ f.each r i g m (omega (arith, low, other, at))

-- The first j of routine k's n lines are measured: they are sum lines long, and where each starts is in the table.
pub record Summing (b : List ℕ) (k n at j sum : ℕ) (starts : List ℕ) : Type 0 where
  pub upto : j ≤ n
  pub room : at + n < table_length
  pub so_far : sum ≡ min (start (book_of b) k j) length_cap
  pub filled : Filled b (slot b k j) starts

pub as_long_as_lent : (xs ys : List ℕ) (i v m : ℕ) → length xs ≡ m → length ys ≡ m → length (set xs i v) ≡ length ys
as_long_as_lent xs ys i v m e f = length-set xs i v ∙ e ∙ sym f

module _ (b : List ℕ) (c : Counts) (k n : ℕ) (t : TakenWith b c) (h : k < c.routines) (size : n ≡ count b k) (at : ℕ) (place : at ≡ slot b k 0) where
  pub nothing_summed : (starts : List ℕ) → Filled b (due b k) starts → Summing b k n at 0 0 starts
  unfolding slot due
  nothing_summed starts f =
      let T = taken_book b t.taken in
      let first : first_line_due b k + k ≡ first_line b k + k + 0 = omega (arith, T.starts_where_due k (here b c k t h)) in
      record {
        upto = omega arith;
        room = omega (arith, place, size, h, T.ends_within k (here b c k t h), T.header.lines_to_4096, t.tabled.sized.routines_to_32);
        so_far = rw (first_start (book_of b) k) refl;
        filled = rw first at f;
      }

  module _ (j sum : ℕ) (starts : List ℕ) (s : Summing b k n at j sum starts) (long : length starts ≡ table_length) where
    slot_j : at + j ≡ slot b k j
    unfolding slot
    slot_j = omega (arith, place)

    within : j ≤ count b k
    within = omega (arith, s.upto, size)

    filled_on : Filled b (slot b k j + 1) (set starts (at + j) sum)
    filled_on = one_more_start b c k t h j (at + j) sum starts within (omega (arith, s.upto, long, s.room)) s.filled slot_j s.so_far

    pub one_more_summed : (sum' : ℕ) → j < n → sum' ≡ min (start (book_of b) k (j + 1)) length_cap
        → Summing b k n at (j + 1) sum' (set starts (at + j) sum)
    unfolding slot
    one_more_summed sum' g more =
        let next : first_line b k + k + j + 1 ≡ first_line b k + k + (j + 1) = omega arith in
        record {
          upto = omega (arith, g);
          room = s.room;
          so_far = more;
          filled = rw next at filled_on;
        }

    pub routine_measured : n ≤ j → Measured b k sum (set starts (at + n) sum)
    unfolding slot due first_line_due
    routine_measured g =
        let at_the_end : j ≡ n = omega (arith, g, s.upto) in
        let ends : first_line b k + k + n + 1 ≡ first_line_due b (k + 1) + (k + 1) = rw (add-one k) (omega (arith, size)) in
        record {
          length_is = rw (sym (end_start (book_of b) (taken_callees_below b t.taken) k n (rw size (routine_ends b k (here b c k t h))))) (rw at_the_end at s.so_far);
          filled = rw (sym ends) (rw at_the_end at filled_on);
        }

-- ---- all of them

-- The routines below k are measured.
pub record Measuring (b : List ℕ) (R k : ℕ) (lengths starts : List ℕ) : Type 0 where
  pub upto : k ≤ R
  pub lengths_are : Row (flat_length (book_of b)) length_cap k lengths
  pub long : length starts ≡ table_length
  pub filled : Filled b (due b k) starts

pub nothing_measured : (b : List ℕ) (R : ℕ) (lengths starts : List ℕ) → length lengths ≡ most_routines → length starts ≡ table_length
    → Measuring b R 0 lengths starts
unfolding due first_line_due
nothing_measured b R lengths starts long tall =
    record {
      upto = omega arith;
      lengths_are = empty_row 0 _ lengths long;
      long = tall;
      filled = record { each = λ r i g m low. absurd (omega (arith, low)) };
    }

module _ (b : List ℕ) (c : Counts) (t : TakenWith b c) (k : ℕ) (lengths starts : List ℕ) (s : Measuring b c.routines k lengths starts) where
  pub one_more_measured : (n : ℕ) (starts' : List ℕ) → k < c.routines → Measured b k n starts' → length starts' ≡ length starts
      → Measuring b c.routines (k + 1) (set lengths k n) starts'
  one_more_measured n starts' h m same =
      record {
        upto = omega (arith, h);
        lengths_are =
            one_more_routine 0 _ lengths k n s.lengths_are (omega (arith, h, t.tabled.sized.routines_to_32)) m.length_is;
        long = same ∙ s.long;
        filled = m.filled;
      }

  pub all_measured : c.routines ≤ k → MeasuredAll b lengths starts
  unfolding slot due
  all_measured h =
      let R = t.tabled.sized.counts.routines_are in
      let T = taken_book b t.taken in
      let last : k ≡ routines b = omega (arith, h, s.upto, R) in
      record {
        lengths_are = rw last at s.lengths_are;
        starts_are = record {
          taken = t.taken;
          long = s.long;
          each = λ r i g m. s.filled.each r i g m (rw last (omega (arith, g, m, T.ends_within r g, T.last_ends_at_L)));
        };
      }

-- ---- reading the table

module _ (b starts : List ℕ) (T : Table b starts) (k i : ℕ) (h : k < routines b) (at : ℕ) (place : at ≡ slot b k 0) (s : i ≤ count b k) where
  slot_i : slot b k i ≡ at + i
  unfolding slot
  slot_i = omega (arith, place)

  pub start_there : at + i < table_length
  unfolding slot
  start_there =
      let B = taken_book b T.taken in
      omega (arith, place, s, h, T.long, B.ends_within k h, B.header.routines_to_32, B.header.lines_to_4096)

  pub slot_fits : Fits w64 (at + i)
  slot_fits = record { fits = omega (arith, start_there, T.long) }

  pub slot_bytes_fit : Fits w64 ((at + i) * 4)
  slot_bytes_fit = record { fits = omega (arith, start_there, T.long) }

  pub start_read : get_or starts (at + i) 0 ≡ min (start (book_of b) k i) length_cap
  start_read = rw slot_i at (T.each k i h s)

  pub start_fits : Fits w64 (get_or starts (at + i) 0)
  start_fits = record { fits = omega (arith, start_read) }

-- The part of the table that has the starts of routine k's n lines.
module _ (b starts : List ℕ) (T : Table b starts) (k : ℕ) (h : k < routines b) (at : ℕ) (place : at ≡ slot b k 0) (n : ℕ) (size : n ≡ count b k) where
  pub part_there : at + n < table_length
  part_there = start_there b starts T k n h at place (omega (arith, size))

  pub part_end_fits : Fits w64 (at + n)
  part_end_fits = record { fits = omega (arith, part_there) }

  pub part_bytes_fit : Fits w64 (at * 4)
  part_bytes_fit = record { fits = omega (arith, part_there) }

  pub starts_in_part : StartsOf b k (mid_of at (at + n - at) starts)
  starts_in_part =
      record {
        long = length-take-le (at + n - at) (drop at starts) (omega (arith, T.long, part_there, length-drop at starts)) ∙ omega (arith, size);
        each = λ i d g.
            get_or-take (at + n - at) (drop at starts) i d (omega (arith, g, size))
            ∙ get_or-drop at starts i d
            ∙ get_or_default starts (at + i) d 0 (omega (arith, T.long, part_there, g, size))
            ∙ start_read b starts T k i h at place (omega (arith, g));
      }
