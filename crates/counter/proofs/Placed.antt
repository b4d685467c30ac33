-- A text of two parts is printed over an output by printing one behind the other; registers are listed so line by line.
-- Read off what writing behind what was written comes to (`written_on` of `book`). The code cites none of it. Assumes nothing.
use Prim.Native.Nat.{ℕ, ◌+◌, ◌-◌, ◌≤◌, ◌<◌}
use native.Mathlib.Omega.{arith}
use mathlib.Core.Path.{◌≡◌, sym, ◌∙◌, ap}
use mathlib.Core.List.{List, [], ◌++◌, append_assoc, append-nil}
use lib.ListN.{length, length-append, take, drop, get_or, length-drop, drop_of_length-le}
use lib.Seq.{length-take-le, take_all, drop-drop}
use borrow.Rule.Slice.PartMut.{mid_of, put_mid}
use Rattle.io.specs.Counts.{IsPrefixLen}
use Rattle.scope.specs.Steps.{Registers}
use Rattle.scope.specs.Flattening.{at_the_front_of}
use Rattle.scope.specs.Shop.{register_line, register_lines, shop_prints}
use Rattle.scope.specs.Book.{Bytes}
use Rattle.book.specs.Written.{with_bytes}
use Rattle.book.proofs.Written.{nothing_written, written_on}
use Rattle.counter.specs.Printed.{longest_answer, counter_answers}
use Rattle.counter.specs.Placed.{Room, Printed, printed}
use Rattle.counter.proofs.Texts.{the_rest, Parts}
use Rattle.counter.proofs.Lines.{no_longer, line_behind}
use Rattle.counter.proofs.Longest.{no_answer_is_longer}
use Rattle.counter.proofs.Served.{part_in_front}

-- ---- one text

-- copied over the rest of the output from a place on
pub text_printed : (out text part : List ℕ) (at r : ℕ) → Room at text out → r ≡ length text
    → part ≡ take (length text) text ++ drop (length text) (mid_of at (length out - at) out)
    → record { next = at + r; left = put_mid at (length out - at) out part } ≡ printed at text out
unfolding printed with_bytes
text_printed out text part at r room size copied =
    let none : drop (length out - at) (drop at out) ≡ [] = drop_of_length-le (drop at out) {i = length out - at} (omega (arith, length-drop at out)) in
    let left : put_mid at (length out - at) out part ≡ take at out ++ text ++ drop (at + length text) out =
    rw (none, append-nil part, copied, the_rest out at, take_all (length text) text (omega arith), drop-drop (length text) at out)
    (sym (append_assoc (take at out) text _)) in
    λ i. record { next = at + size i; left = left i }

pub nothing_printed : (at : ℕ) (out : List ℕ) → record { next = at; left = out } ≡ printed at [] out
unfolding printed
nothing_printed at out =
    let same : at ≡ at + 0 = omega arith in
    λ i. record { next = same i; left = nothing_written out at i }

-- The output is as long as it was.
pub as_long : (at : ℕ) (out text : List ℕ) → Room at text out → {m : ℕ} {out' : List ℕ}
    → record { next = m; left = out' } ≡ printed at text out → length out' ≡ length out
unfolding printed with_bytes
as_long at out text room p =
    let front = length-append (take at out ++ text) (drop (at + length text) out) in
    omega (
      arith,
      ap (λ p. length p.left) p,
      front,
      length-append (take at out) text,
      length-take-le at out (omega (arith, room.enough)),
      length-drop (at + length text) out,
      room.enough,
    )

-- ---- a text in other words

module _ (at : ℕ) (out : List ℕ) {text said : List ℕ} (same : text ≡ said) where
  pub room_there : Room at text out → Room at said out
  room_there room = rw same at room

  pub printed_there : {p : Printed} → p ≡ printed at said out → p ≡ printed at text out
  printed_there e = rw same e

-- ---- a text of two parts

module _ (at : ℕ) (out : List ℕ) {text a b : List ℕ} (room : Room at text out) (parts : Parts text a b) where
  size : length text ≡ length a + length b
  size = ap length parts.joined ∙ length-append a b

  pub room_for_the_first : Room at a out
  room_for_the_first = record { enough = omega (arith, size, room.enough) }

  module _ {m : ℕ} {out' : List ℕ} (first : record { next = m; left = out' } ≡ printed at a out) where
    place : m ≡ at + length a
    unfolding printed
    place = ap (λ p. p.next) first

    pub room_for_the_second : Room m b out'
    room_for_the_second = record { enough = omega (arith, size, room.enough, place, as_long at out a room_for_the_first first) }

    pub both_printed : {m' : ℕ} {out'' : List ℕ} → record { next = m'; left = out'' } ≡ printed m b out'
        → record { next = m'; left = out'' } ≡ printed at text out
    unfolding printed
    both_printed {m'} {out''} second =
        let end : m' ≡ at + length text = omega (arith, ap (λ p. p.next) second, place, size) in
        let left : out'' ≡ with_bytes out at text =
        ap (λ p. p.left) second ∙ ap (λ o. with_bytes o m b) (ap (λ p. p.left) first)
        ∙ written_on out a b at m place (omega (arith, place, room_for_the_first.enough)) ∙ ap (with_bytes out at) (sym parts.joined) in
        λ i. record { next = end i; left = left i }

-- ---- registers

pub zero_not_printed : (at j v : ℕ) (out : List ℕ) → v ≡ 0 → record { next = at; left = out } ≡ printed at (register_line j v) out
unfolding register_line
zero_not_printed at j v out e = rw e (nothing_printed at out)

-- The lines of the registers before j are printed.
pub record Listed (from : ℕ) (rs : Registers) (out₀ : List ℕ) (j at : ℕ) (out : List ℕ) : Type 0 where
  pub upto : j ≤ length rs
  pub so_far : record { next = at; left = out } ≡ printed from (register_lines 0 (take j rs)) out₀

module _ (from : ℕ) (rs : Registers) (out₀ : List ℕ) where
  pub none_listed : Listed from rs out₀ 0 from out₀
  unfolding register_lines
  none_listed = record { upto = omega arith; so_far = nothing_printed from out₀ }

  module _ (room : Room from (register_lines 0 rs) out₀) (j at : ℕ) (out : List ℕ) (l : Listed from rs out₀ j at out) where
    room_to : (k : ℕ) → Room from (register_lines 0 (take k rs)) out₀
    room_to k = record { enough = omega (arith, room.enough, no_longer 0 k rs) }

    module _ (h : j < length rs) where
      pub room_for_a_register : Room at (register_line j (get_or rs j 0)) out
      room_for_a_register = room_for_the_second from out₀ (room_to (j + 1)) (line_behind rs j h) l.so_far

      pub one_more_listed : {at' : ℕ} {out' : List ℕ} → record { next = at'; left = out' } ≡ printed at (register_line j (get_or rs j 0)) out
          → Listed from rs out₀ (j + 1) at' out'
      one_more_listed p = record { upto = omega arith; so_far = both_printed from out₀ (room_to (j + 1)) (line_behind rs j h) l.so_far p }

    pub listed_as_long : length out ≡ length out₀
    listed_as_long = as_long from out₀ (register_lines 0 (take j rs)) (room_to j) l.so_far

    pub all_listed : length rs ≤ j → record { next = at; left = out } ≡ printed from (register_lines 0 rs) out₀
    all_listed h = rw (take_all j rs h) at l.so_far

-- ---- the answer

module _ (input out : List ℕ) where
  pub room_for_the_answer : Bytes input → length out ≡ longest_answer → Room 0 (shop_prints input) out
  room_for_the_answer known long = record { enough = omega (arith, no_answer_is_longer input known, long) }

  -- It stands at the front, and so many bytes are there.
  pub answer_is : {r : ℕ} {out' : List ℕ} → record { next = r; left = out' } ≡ printed 0 (shop_prints input) out
      → (record { count = r; left = out' } ≡ counter_answers input out) × IsPrefixLen r out'
  unfolding printed with_bytes counter_answers at_the_front_of
  answer_is {r} {out'} p =
      let text = shop_prints input in
      let same : 0 + length text ≡ length text = omega arith in
      let count : r ≡ length text = ap (λ q. q.next) p ∙ same in
      let left : out' ≡ text ++ drop (length text) out = ap (λ q. q.left) p ∙ ap (λ n. text ++ drop n out) same in
      let within : r ≤ length out' = omega (arith, count, ap length left, length-append text (drop (length text) out)) in
      ((λ i. record { count = count i; left = left i }), (within, part_in_front r out' within))
