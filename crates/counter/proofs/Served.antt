-- What is printed of each way through the counter is what document 01 has the program print.
-- With 16,400 bytes of room 14 can't come, and a flat book that flattening wrote is not refused by the run. Assumes nothing.
use Rattle.std.specs.Prelude.{Result, Ok, Err}
use mir.Syntax.{w64}
use mir.Val.{Fits}
use Prim.Native.Nat.{ℕ, ◌+◌, ◌-◌, ◌*◌, ◌≤◌, ◌<◌}
use native.Mathlib.Omega.{arith}
use mathlib.Core.Path.{◌≡◌, refl, sym, ◌∙◌, ap}
use mathlib.Core.List.{List, [], ◌++◌}
use lib.ListN.{length, length-append, take, drop}
use lib.Seq.{length-take-le}
use Rattle.scope.specs.Refusals as paper
use Rattle.scope.specs.Refusals.{SHORT, LENGTH, refusal, call_of}
use Rattle.scope.specs.Book.{Bytes, book_of}
use Rattle.scope.specs.Steps.{register_count, Registers}
use Rattle.scope.specs.Flattening.{flat_program, flat_book, flat_book_bytes, at_the_front_of, flatten_call}
use Rattle.scope.specs.Running.{flat_run, ran, run_call}
use Rattle.scope.specs.Page.{registers_of}
use Rattle.scope.specs.Shop.{trailer_length, most_input, book_read, trailer_read, routine_read, registers_read, budget_read, print_run, print_refusal, shop_run, shop_prints}
use Rattle.scope.specs.GivenByCalls.{Flattens, GivenFlattening, flattening_before, flattening_NO_ROOM, GivenInTheShop, shop_SHORT, shop_LENGTH, shop_before}
use Rattle.scope.proofs.Verdicts.{refused_exactly_when, call_where_passed}
use Rattle.scope.proofs.Lists.{length_listed}
use Rattle.scope.proofs.GivenByCalls.{flattening_given_exactly_when}
use Rattle.scope.proofs.Answers.{shop_prints_a_refusal, shop_prints_a_run}
use Rattle.scope.proofs.FlatLines.{length_flat_program}
use Rattle.scope.proofs.FlatBook.{flat_book_is_taken}
use Rattle.scope.proofs.Flattened.{flattened_can_be_run}
use Rattle.book.specs.declared.refusals.Refusal.{Refusal}
use Rattle.book.specs.Told.{refusal_told, result_told, number_told}
use Rattle.flatten.proofs.Output.{routine_flattens, n_is_its_length, flat_book_in_front}
use Rattle.unit.specs.declared.machine.Answer.{Answer}
use Rattle.unit.specs.Told.{ran_told}
use Rattle.io.specs.Counts.{IsPrefixLen}
use Rattle.counter.specs.declared.TheConstants.{LONGEST_ANSWER}
use Rattle.counter.specs.Printed.{longest_answer, counter_answers, Room, print_answer, print_call, print_run_of}
use Rattle.counter.proofs.LastBytes.{slice_has_bytes, book_first, trailer_last}
use Rattle.counter.proofs.Longest.{no_answer_is_longer}

-- how many bytes a part in front has
pub part_in_front : (k : ℕ) (xs : List ℕ) → k ≤ length xs → k ≡ length (take k xs)
part_in_front k xs h = sym (length-take-le k xs h)

pub book_in_front : (input : List ℕ) → length input - 74 ≡ length (take (length input - 74) input)
book_in_front input = part_in_front (length input - 74) input (omega arith)

-- ---- the run

-- Run with what is read, it is the run that is to be printed.
pub run_is_printed : (flat trailer : List ℕ) (rs rs' : Registers) (budget : ℕ) (r : Result Answer Refusal) → rs ≡ registers_read trailer → budget ≡ budget_read trailer
    → record { answer = ran_told r; left = rs' } ≡ run_call flat 0 rs budget → print_run_of flat trailer ≡ print_answer (ran_told r) rs'
unfolding print_run_of print_call
run_is_printed flat trailer rs rs' budget r its_registers its_budget told = rw (its_registers, its_budget) at (ap print_call (sym told))

-- ---- flattening

module _ (input : List ℕ) (h : trailer_length ≤ length input) (l : length input ≤ most_input) where
  -- A flat book that flattening wrote is run, and the run printed.
  shop_prints_its_run : Flattens (book_read input) (routine_read input)
      → shop_prints input ≡ print_run_of (flat_book (flat_program (book_of (book_read input)) (routine_read input))) input
  unfolding print_run_of run_call print_call print_answer ran print_run registers_read registers_of shop_run
  shop_prints_its_run f =
      let says = flat_book_is_taken (book_read input) f.taken (routine_read input) f.not_too_long in
      let passes = flattened_can_be_run (book_read input) (routine_read input) f (registers_read input) (length_listed _ 0 register_count) in
      shop_prints_a_run input h l f
      ∙ sym (ap print_call (call_where_passed _ _ _ passes) ∙ ap (λ P. print_run (flat_run P 0 (budget_read input) (registers_read input))) says.its_program)

module _ (book trailer : List ℕ) (many : length trailer ≡ trailer_length) (l : length (book ++ trailer) ≤ most_input) where
  abbrev input : List ℕ
  input = book ++ trailer

  long_enough : trailer_length ≤ length input
  long_enough = omega (arith, length-append book trailer, many)

  its_book : book_read input ≡ book
  its_book = book_first book trailer many

  its_trailer : trailer_read input ≡ trailer_read trailer
  its_trailer = trailer_last book trailer many ∙ sym (trailer_last [] trailer many)

  its_routine : routine_read input ≡ routine_read trailer
  unfolding routine_read
  its_routine = rw its_trailer refl

  its_run : (flat : List ℕ) → print_run_of flat input ≡ print_run_of flat trailer
  unfolding print_run_of registers_read budget_read
  its_run flat = rw its_trailer refl

  module _ (flat flat' : List ℕ) (size : length flat ≡ 16400) (r k : ℕ) (asked : r ≡ routine_read trailer) (widened : k ≡ r) (f : Result ℕ Refusal)
      (told : record { answer = number_told f; left = flat' } ≡ flatten_call book k flat) where
    as_read : record { answer = number_told f; left = flat' } ≡ flatten_call (book_read input) (routine_read input) flat
    as_read = rw (its_book, its_routine, ← asked, ← widened) told

    module _ {x : Refusal} (e : f ≡ Err x) where
      -- 14 is not among its refusals.
      refused_before : {y : paper.Refusal} → GivenFlattening (book_read input) (routine_read input) (length flat) y → GivenInTheShop input y
      unfolding flat_book_bytes
      refused_before (flattening_before g) = shop_before long_enough l g
      refused_before (flattening_NO_ROOM g small) = absurd (omega (arith, g.not_too_long, small, size))

      pub shop_prints_its_refusal : shop_prints input ≡ print_refusal (refusal_told x)
      unfolding flatten_call call_of result_told
      shop_prints_its_refusal =
          let answers = ap (λ c. c.answer) (rw e at as_read) in
          shop_prints_a_refusal input (refusal_told x)
          (refused_before ((flattening_given_exactly_when _ _ _ _).0 ((refused_exactly_when _ _ _).0 (sym answers))))

    module _ {n : ℕ} (e : f ≡ Ok n) where
      it_flattens : Flattens (book_read input) (routine_read input)
      it_flattens = routine_flattens (book_read input) (routine_read input) n flat flat' (rw e at as_read)

      n_within : n ≤ 4096
      n_within =
          let its_size = n_is_its_length (book_read input) (routine_read input) n flat flat' (rw e at as_read) in
          omega (arith, its_size, length_flat_program (book_of (book_read input)) (routine_read input), it_flattens.not_too_long)

      pub lines_fit : Fits w64 (4 * n)
      lines_fit = record { fits = omega (arith, n_within) }

      pub flat_book_fits : Fits w64 (16 + 4 * n)
      flat_book_fits = record { fits = omega (arith, n_within) }

      pub flat_book_stands_in_front : length flat' ≡ length flat → 16 + 4 * n ≤ length flat'
      flat_book_stands_in_front same = omega (arith, n_within, size, same)

      pub flat_book_part : length flat' ≡ length flat → 16 + 4 * n ≡ length (take (16 + 4 * n) flat')
      flat_book_part same = part_in_front (16 + 4 * n) flat' (flat_book_stands_in_front same)

      pub shop_prints_the_run_of_it : shop_prints input ≡ print_run_of (take (16 + 4 * n) flat') trailer
      unfolding flat_book_bytes
      shop_prints_the_run_of_it =
          let front = flat_book_in_front (book_read input) (routine_read input) n flat flat' (rw e at as_read) in
          rw front (shop_prints_its_run input long_enough l it_flattens) ∙ its_run (take (16 + 4 * n) flat')

-- ---- by its size alone

module _ (input : List ℕ) (x : Refusal) where
  -- under 74 bytes
  pub shop_prints_SHORT : refusal_told x ≡ refusal SHORT 0 → length input < trailer_length → shop_prints input ≡ print_refusal (refusal_told x)
  shop_prints_SHORT told h = shop_prints_a_refusal input (refusal_told x) (rw told (shop_SHORT h))

  -- over 16,598
  pub shop_prints_LENGTH : refusal_told x ≡ refusal LENGTH 0 → trailer_length ≤ length input → most_input < length input
      → shop_prints input ≡ print_refusal (refusal_told x)
  shop_prints_LENGTH told h l = shop_prints_a_refusal input (refusal_told x) (rw told (shop_LENGTH h l))

-- how `print_answer` is met
pub ruleset by_size = (shop_prints_SHORT, shop_prints_LENGTH)

-- ---- the answer

-- The output has as many bytes as the longest answer, and no more.
pub as_long_as_the_longest : LONGEST_ANSWER ≡ longest_answer
as_long_as_the_longest = refl

pub room_for_the_answer : (input printed : List ℕ) → Bytes input → printed ≡ [] → Room (shop_prints input) printed
room_for_the_answer input printed known none = omega (arith, no_answer_is_longer input known, ap length none)

-- Copied to the front of the output it stands there, and so many bytes are there.
pub answer_is : (input out : List ℕ) {start printed seen copied : List ℕ} {r : ℕ} → start ≡ [] → printed ≡ start ++ shop_prints input → r ≡ length printed
    → seen ≡ printed → copied ≡ seen
    → (record { count = r; left = copied ++ drop r out } ≡ counter_answers input out) × IsPrefixLen r (copied ++ drop r out)
unfolding counter_answers at_the_front_of
answer_is input out {copied = copied} {r = r} none printed_all size all_seen all_copied =
    let within : r ≤ length (copied ++ drop r out) = omega (arith, size, ap length all_seen, ap length all_copied, length-append copied (drop r out)) in
    (rw (all_copied, all_seen, size, printed_all, none) refl, (within, part_in_front r (copied ++ drop r out) within))

-- how `answer` is met
pub ruleset answered = (slice_has_bytes, room_for_the_answer, answer_is)
