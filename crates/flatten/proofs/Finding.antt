-- In which line of a copy a flat line lies: the one that is guessed, if it lies there, else the one that halving finds.
-- Within 4,096 lines the starts in the table are the starts themselves; those of one routine do not fall. Assumes nothing.
use mir.Syntax.{w16}
use mir.Val.{Fits}
use Prim.Native.Nat.{ℕ, zero, suc, ◌+◌, ◌-◌, ◌/◌, ◌<◌, ◌≤◌, min}
use native.Mathlib.Omega.{arith}
use native.Mathlib.Numerals.{add-one}
use mathlib.Core.Path.{◌≡◌, refl, sym, ◌∙◌, ap}
use mathlib.Core.Bool.{true, false}
use mathlib.Core.Logic.{⊎_elim}
use mathlib.Core.List.{List}
use lib.Dec.{leb}
use lib.ListN.{length}
use Rattle.std.specs.List.Sorted.{IsNonDecreasingBy, IsPartitionPoint, IsPartitionedBy}
use Rattle.std.proofs.lemmas.Bool.{leb-true, leb-false}
use Rattle.std.proofs.lemmas.List.Sorted.{IsNonDecreasingBy-from_all_adjacent, IsPartitionedBy-leb}
use Rattle.scope.specs.Book.{most_lines, routines, count, book_of}
use Rattle.scope.specs.Flattening.{flat_length, start}
use Rattle.scope.proofs.Verdicts.{one_holds, below_tells}
use Rattle.scope.proofs.TakenBook.{taken_book, taken_callees_below, line_in_the_book, routine_ends}
use Rattle.scope.proofs.FlatLines.{first_start, next_start, end_start, start_within}
use Rattle.book.specs.declared.lines.RoutineLine.{RoutineLine}
use Rattle.flatten.specs.declared.copying.Place.{Place}
use Rattle.flatten.specs.Rows.{length_cap, Table, StartsOf}
use Rattle.flatten.specs.Copies.{CopyWithin, InTheCopy, InTheLine, LineAround}

-- ---- starts within 4,096 are the starts themselves

module _ (b starts : List ℕ) (T : Table b starts) (k base : ℕ) (w : CopyWithin b k base) where
  below_the_cap : (i : ℕ) → start (book_of b) k i < length_cap
  below_the_cap i = omega (arith, w.ends_within, start_within (book_of b) (taken_callees_below b T.taken) k i)

  pub moved_is : (i v u : ℕ) → v ≡ min (start (book_of b) k i) length_cap → u ≡ base + v → u ≡ base + start (book_of b) k i
  moved_is i v u e f = omega (arith, e, f, below_the_cap i)

-- ---- the line in which a flat line lies

-- The starts of a routine's lines do not fall.
starts_rise : (b : List ℕ) (k : ℕ) (part : List ℕ) → k < routines b → StartsOf b k part → IsNonDecreasingBy (λ n. n) part
starts_rise b k part g s =
    IsNonDecreasingBy-from_all_adjacent (λ n. n) part
    (λ i d h.
    let next = ap (start (book_of b) k) (add-one i) ∙ next_start (book_of b) k i (line_in_the_book b k i g (omega (arith, h, s.long))) in
    omega (arith, s.each i d (omega (arith, h, s.long)), s.each (i + 1) d (omega (arith, h, s.long)), next))

-- Of these, the first `behind` are at or below x, which is p counted from where the copy begins.
module _ (b starts : List ℕ) (T : Table b starts) (k base p : ℕ) (w : InTheCopy b k base p) (x : ℕ) (from_base : x ≡ p - base)
    (part : List ℕ) (s : StartsOf b k part) where
  g : k < routines b
  g = w.copy_within.a_routine

  pub at_or_below : IsPartitionedBy (λ n. leb n x) part
  at_or_below = IsPartitionedBy-leb (λ n. n) part x (starts_rise b k part g s)

  module _ (behind : ℕ) (bound : behind ≤ length part) (point : IsPartitionPoint (λ n. leb n x ≡ true) (λ n. leb n x ≡ false) part behind) where
    below_is : (i : ℕ) → i < behind → start (book_of b) k i ≤ x
    below_is i h =
        let there : i < count b k = omega (arith, h, bound, s.long) in
        omega (arith, leb-true _ _ (point.0 i 0 (omega arith) h), s.each i 0 there, below_the_cap b starts T k base w.copy_within i)

    above_is : (i : ℕ) → i ≤ count b k → behind ≤ i → x < start (book_of b) k i
    above_is i there h =
        let end = end_start (book_of b) (taken_callees_below b T.taken) k (count b k) (routine_ends b k g) in
        let before_the_end : x < start (book_of b) k (count b k) = omega (arith, end, from_base, w.from, w.to) in
        ⊎_elim (λ (a_line : i < count b k). omega (arith, leb-false _ _ (point.1 i 0 h (omega (arith, a_line, s.long))), s.each i 0 a_line))
        (λ (no_line : count b k ≤ i).
        let at_the_end : i ≡ count b k = omega arith in
        rw at_the_end before_the_end)
        (one_holds (below_tells i (count b k)))

    -- The first line is.
    pub some_are_below : 1 ≤ behind
    some_are_below =
        ⊎_elim (λ (none : behind < 1). absurd (omega (arith, above_is 0 (omega arith) (omega (arith, none)), first_start (book_of b) k)))
        (λ (some : 1 ≤ behind). some) (one_holds (below_tells behind 1))

    pub line_before_fits : Fits w16 (behind - 1)
    line_before_fits =
        let B = taken_book b T.taken in
        record { fits = omega (arith, bound, s.long, B.ends_within k g, B.header.lines_to_4096) }

    -- The flat line lies in the last of them.
    pub line_of_the_partition : InTheLine b k base (behind - 1) p
    line_of_the_partition =
        let next : behind - 1 + 1 ≡ behind = omega (arith, some_are_below) in
        record {
          copy_within = w.copy_within;
          a_line = omega (arith, some_are_below, bound, s.long);
          from = omega (arith, below_is (behind - 1) (omega (arith, some_are_below)), from_base, w.from);
          to = omega (arith, rw (sym next) at (above_is behind (omega (arith, bound, s.long)) (omega arith)), from_base, w.from);
        }

-- x, counted from where the copy begins, lies between where two lines start.
pub record Between (b : List ℕ) (k x low high : ℕ) : Type 0 where
  pub apart : low < high
  pub within : high ≤ count b k
  pub small : count b k ≤ most_lines
  pub as_they_are : (i : ℕ) → start (book_of b) k i < length_cap
  pub from : start (book_of b) k low ≤ x
  pub to : x < start (book_of b) k high

module _ (b : List ℕ) (k x low high : ℕ) (s : Between b k x low high) (on : low + 1 < high) (middle : ℕ) (half : middle ≡ (low + high) / 2) where
  pub middle_there : middle ≤ count b k
  middle_there = omega (arith, half, on, s.within)

  module _ (v : ℕ) (e : v ≡ min (start (book_of b) k middle) length_cap) where
    pub lower_half : x < v → Between b k x low middle
    lower_half h =
        record {
          apart = omega (arith, half, on);
          within = middle_there;
          small = s.small;
          as_they_are = s.as_they_are;
          from = s.from;
          to = omega (arith, e, h);
        }

    pub upper_half : v ≤ x → Between b k x middle high
    upper_half h =
        record {
          apart = omega (arith, half, on);
          within = s.within;
          small = s.small;
          as_they_are = s.as_they_are;
          from = omega (arith, e, h, s.as_they_are middle);
          to = s.to;
        }

module _ (b starts : List ℕ) (T : Table b starts) (k base p : ℕ) (w : InTheCopy b k base p) (x : ℕ) (from_base : x ≡ p - base) where
  pub whole_copy : (high : ℕ) → high ≡ count b k → Between b k x 0 high
  whole_copy high size =
      let g = w.copy_within.a_routine in
      let B = taken_book b T.taken in
      let end = rw (sym size) at (end_start (book_of b) (taken_callees_below b T.taken) k (count b k) (routine_ends b k g)) in
      let first = first_start (book_of b) k in
      record {
        apart = above_0 high end;
        within = omega (arith, size);
        small = omega (arith, B.ends_within k g, B.header.lines_to_4096);
        as_they_are = below_the_cap b starts T k base w.copy_within;
        from = omega (arith, first);
        to = omega (arith, end, from_base, w.from, w.to);
      }
    where
      above_0 : (high : ℕ) → start (book_of b) k high ≡ flat_length (book_of b) k → 0 < high
      above_0 zero e = absurd (omega (arith, e, first_start (book_of b) k, w.from, w.to))
      above_0 (suc high) e = omega arith

  pub line_is_around : (low high : ℕ) → Between b k x low high → high ≤ low + 1 → InTheLine b k base low p
  line_is_around low high s h =
      let next : high ≡ low + 1 = omega (arith, h, s.apart) in
      record {
        copy_within = w.copy_within;
        a_line = omega (arith, s.apart, s.within);
        from = omega (arith, s.from, from_base, w.from);
        to = omega (arith, rw next at s.to, from_base, w.from);
      }

-- ---- the line that is guessed, or found

-- A routine has at most 4,096 lines.
pub line_of_a_routine : (b starts : List ℕ) (T : Table b starts) (k base p : ℕ) (w : InTheCopy b k base p) (n i : ℕ) → n ≡ count b k → i < n → i < most_lines
line_of_a_routine b starts T k base p w n i size h =
    let B = taken_book b T.taken in
    omega (arith, size, h, B.ends_within k w.copy_within.a_routine, B.header.lines_to_4096)

module _ (b : List ℕ) (guess : Place) (p : ℕ) (w : InTheCopy b guess.routine guess.base.0 p) where
  pub guess_is_right : (n u v : ℕ) → n ≡ count b guess.routine → guess.line.0 < n
      → u ≡ guess.base.0 + start (book_of b) guess.routine guess.line.0 → u ≤ p
      → v ≡ guess.base.0 + start (book_of b) guess.routine (guess.line.0 + 1) → p < v → LineAround b guess p guess
  guess_is_right n u v size h from low to high =
      record {
        same_routine = refl;
        same_base = refl;
        in_the_line = record {
          copy_within = w.copy_within;
          a_line = omega (arith, size, h);
          from = omega (arith, from, low);
          to = omega (arith, to, high);
        };
      }

  pub line_is_found : (at : Place) (line : RoutineLine) → InTheLine b guess.routine guess.base.0 line.0 p
      → at ≡ record { routine = guess.routine; base = guess.base; line = line } → LineAround b guess p at
  line_is_found at line s e = rw e (record { same_routine = refl; same_base = refl; in_the_line = s })

-- ---- opening a copy

module _ (b starts : List ℕ) (T : Table b starts) (copy : Place) (p : ℕ) (w : InTheCopy b copy.routine copy.base.0 p) where
  module _ (guess : Place) (line : RoutineLine) (made : guess ≡ record { routine = copy.routine; base = copy.base; line = line }) where
    pub found_in_the_copy : (at : Place) → LineAround b guess p at → LineAround b copy p at
    found_in_the_copy at s =
        record {
          same_routine = s.same_routine ∙ ap (λ (y : Place). y.routine) made;
          same_base = s.same_base ∙ ap (λ (y : Place). y.base) made;
          in_the_line = rw made at s.in_the_line;
        }
