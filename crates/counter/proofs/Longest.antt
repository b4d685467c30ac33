-- No answer is longer than the longest, 349 bytes, whatever bytes are read.
-- A run stays within its budget, its lines and 65,535, so that each field has few digits; a refusal has two short numbers. Assumes nothing.
use Prim.Native.Nat.{ℕ, zero, suc, ◌+◌, ◌-◌, ◌*◌, ◌^◌, ◌≤◌, ◌<◌}
use native.Mathlib.Omega.{arith}
use mathlib.Core.Path.{◌≡◌, refl, ap}
use mathlib.Core.List.{List, [], ◌∷◌}
use lib.ListN.{length, length-append, take, drop, length-drop}
use Rattle.scope.specs.Words.{listed}
use Rattle.scope.specs.Refusals.{Name, number, Refusal, refusal, Verdict, pass, refuse}
use Rattle.scope.specs.Ram.{INC, Program, Configuration}
use Rattle.scope.specs.Book.{header_bytes, entry_bytes, byte, Bytes, two_byte, routines, first_line, count, line_number}
use Rattle.scope.specs.Steps.{register_count, top, Registers, value, ValuesWithin, Outcome}
use Rattle.scope.specs.Running.{flat_run}
use Rattle.scope.specs.Transitions.{OurProgram, RegisterWithin, RegistersWithin, Reason, finished, out_of_steps, full}
use Rattle.scope.specs.Page.{registers_length, registers_of}
use Rattle.scope.specs.Shop.{trailer_length, most_input, book_read, trailer_read, routine_read, registers_read, low_byte_first, budget_read, ascii, last_digit, decimal_digits, decimal, outcome_line, register_line, register_lines, print_run, print_refusal, shop_verdict, shop_run, shop_prints_by, shop_prints}
use Rattle.scope.specs.Given.{Given, gives_SHORT, gives_FORMAT, gives_COUNTS, gives_OFFSETS, gives_LENGTH, gives_ROUTINE, gives_ROUTINE_last, gives_KIND, gives_REGISTER, gives_TARGET, gives_CALLEE, ComesTo, PastKind, PastRegister, PastTarget}
use Rattle.scope.specs.GivenByCalls.{to_flatten_the_book, to_flatten_NO_ROUTINE, to_flatten_DEPTH, to_flatten_TOO_LONG, Flattens, GivenInTheShop, shop_SHORT, shop_LENGTH, shop_before}
use Rattle.scope.proofs.Lists.{length_listed}
use Rattle.scope.proofs.Verdicts.{below_tells, above_tells, finds_no_fault}
use Rattle.scope.proofs.GivenByCalls.{flattens_exactly_when, shop_given_exactly_when}
use Rattle.scope.proofs.FlatBook.{flat_program_fits}
use Rattle.scope.proofs.RunExactly.{run_exactly, Ours, run_stays_ours}
use Rattle.counter.specs.Printed.{longest_answer, number_and, two_numbers, word_and_two}
use Rattle.counter.proofs.Decimal.{decimal_within}
use Rattle.counter.proofs.LastBytes.{byte_below_256, bytes_behind, below_a_power}
use Rattle.counter.proofs.Lines.{refusal_says, FINISHED_says, OUT_OF_STEPS_says, FULL_says, R_says}

-- ---- how long lines are

number_within : (n behind a : ℕ) → length (decimal n) ≤ a → length (number_and n behind) ≤ a + 1
unfolding number_and
number_within n behind a h = omega (arith, length-append (decimal n) (behind ∷ []), h)

two_within : (word : List ℕ) (n m behind : ℕ) (a b : ℕ) → length (decimal n) ≤ a → length (decimal m) ≤ b
    → length (word_and_two word n m behind) ≤ length word + a + b + 2
unfolding word_and_two two_numbers
two_within word n m behind a b h l =
    omega (
      arith,
      length-append word (two_numbers n m behind),
      length-append (number_and n 32) (number_and m behind),
      number_within n 32 a h,
      number_within m behind b l,
    )

module _ (s l : ℕ) (few : s < 10 ^ 20) (short : l < 10 ^ 4) where
  -- with at most 20 digits of steps and 4 of the line
  line_within : (word : List ℕ) (behind : ℕ) → length (word_and_two word s l behind) ≤ length word + 26
  line_within word behind = omega (arith, two_within word s l behind 20 4 (decimal_within 19 s few) (decimal_within 3 l short))

  outcome_within : {P : Program} {budget : ℕ} {c : Configuration} {o : Outcome} → OurProgram P → Reason P budget s c o → length (outcome_line o s l) ≤ 39
  unfolding RegistersWithin RegisterWithin ascii
  outcome_within ours (finished f) = rw (FINISHED_says s l) (omega (arith, line_within (ascii "FINISHED ") 10))
  outcome_within ours (out_of_steps n e) = rw (OUT_OF_STEPS_says s l) (omega (arith, line_within (ascii "OUT OF STEPS ") 10))
  outcome_within ours (full {j} n e f) =
      let its_register = decimal_within 1 j (omega (arith, ours.registers_within _ (INC j) f.before_INC)) in
      rw (FULL_says s l j)
      (omega (arith, length-append (word_and_two (ascii "FULL ") s l 32) (number_and j 10), number_within j 10 2 its_register, line_within (ascii "FULL ") 32))

register_within : (j v : ℕ) → v ≤ top → length (register_line j v) ≤ 8 + length (decimal j)
unfolding register_line ascii
register_within j zero h = omega arith
register_within j (suc v) h =
    omega (
      arith,
      ap length (R_says j (suc v) (λ e. omega (arith, e))),
      two_within (ascii "R") j (suc v) 10 (length (decimal j)) 5 (omega arith) (decimal_within 4 (suc v) (omega arith)),
    )

-- room for the lines of n registers from register j on
unfoldable room_for : (j n : ℕ) → ℕ
room_for j zero = 0
room_for j (suc n) = 8 + length (decimal j) + room_for (suc j) n

registers_within : (j : ℕ) (rs : Registers) → ValuesWithin rs → length (register_lines j rs) ≤ room_for j (length rs)
unfolding room_for register_lines ValuesWithin value
registers_within j [] w = omega arith
registers_within j (v ∷ rs) w =
    omega (arith, length-append (register_line j v) (register_lines (suc j) rs), register_within j v (w 0), registers_within (suc j) rs (λ i. w (suc i)))

all_of_them : room_for 0 register_count ≡ 310
unfolding room_for decimal decimal_digits last_digit
all_of_them = refl

run_within : {P : Program} → OurProgram P → length P < 10 ^ 4 → (budget : ℕ) (rs : Registers) → budget < 10 ^ 20 → Ours P 0 rs
    → length (print_run (flat_run P 0 budget rs)) ≤ longest_answer
unfolding print_run
run_within {P} ours short budget rs few o =
    let e = flat_run P 0 budget rs in
    let ends = (run_exactly ours (λ j. 0) 0 budget rs e o.registers_32 o.line_within).0 refl in
    let stays = run_stays_ours ours 0 budget rs o in
    let many = rw ends.registers_again at (registers_within 0 e.registers stays.values_within) in
    omega (
      arith,
      length-append (outcome_line e.outcome e.steps e.place) (register_lines 0 e.registers),
      many,
      all_of_them,
      outcome_within e.steps e.place (omega (arith, ends.within)) (omega (arith, stays.line_within)) ours ends.reason,
    )

-- ---- what bytes say is small

bytes_in_front : (n : ℕ) (xs : List ℕ) → Bytes xs → Bytes (take n xs)
unfolding Bytes byte
bytes_in_front zero xs known i h = absurd (omega arith)
bytes_in_front (suc n) [] known i h = absurd (omega arith)
bytes_in_front (suc n) (x ∷ xs) known zero h = known 0 (omega arith)
bytes_in_front (suc n) (x ∷ xs) known (suc i) h = bytes_in_front n xs (λ k g. known (suc k) (omega arith)) i (omega arith)

two_byte_within : (xs : List ℕ) → Bytes xs → (i : ℕ) → two_byte xs i ≤ top
unfolding two_byte
two_byte_within xs known i = omega (arith, byte_below_256 xs known i, byte_below_256 xs known (i + 1))

listed_within : (f : ℕ → ℕ) → ((k : ℕ) → f k ≤ top) → (i n : ℕ) → ValuesWithin (listed f i n)
unfolding ValuesWithin value listed
listed_within f h i zero j = omega arith
listed_within f h i (suc n) zero = h i
listed_within f h i (suc n) (suc j) = listed_within f h (suc i) n j

-- ---- a refusal

record ShortRefusal (x : Refusal) : Type 0 where
  number_short : number x.name < 10 ^ 2
  place_short : x.place < 10 ^ 6

at_0 : {n : Name} → number n < 10 ^ 2 → ShortRefusal (refusal n 0)
at_0 h = record { number_short = h; place_short = omega arith }

refusal_within : (x : Refusal) → ShortRefusal x → length (print_refusal x) ≤ longest_answer
unfolding ascii
refusal_within x s =
    rw (refusal_says x)
    (omega (arith, two_within (ascii "REFUSED ") (number x.name) x.place 10 2 6 (decimal_within 1 _ s.number_short) (decimal_within 5 _ s.place_short)))

module _ (b : List ℕ) (known : Bytes b) where
  line_short : (r j : ℕ) → ComesTo b r j → line_number b r j < 10 ^ 6
  unfolding line_number first_line count
  line_short r j c = omega (arith, c.in_the_routine, two_byte_within b known (header_bytes + entry_bytes * r), two_byte_within b known (header_bytes + entry_bytes * r + 2))

  given_short : {x : Refusal} → Given b x → ShortRefusal x
  unfolding number routines PastKind PastRegister PastTarget
  given_short (gives_SHORT s) = at_0 (omega arith)
  given_short (gives_FORMAT p w) = at_0 (omega arith)
  given_short (gives_COUNTS p w) = at_0 (omega arith)
  given_short (gives_OFFSETS p w) = at_0 (omega arith)
  given_short (gives_LENGTH p w) = at_0 (omega arith)
  given_short (gives_ROUTINE r p h w) = record { number_short = omega arith; place_short = omega (arith, h, two_byte_within b known 2) }
  given_short (gives_ROUTINE_last p w) = record { number_short = omega arith; place_short = omega (arith, two_byte_within b known 2) }
  given_short (gives_KIND r j c w) = record { number_short = omega arith; place_short = line_short r j c }
  given_short (gives_REGISTER r j p w) = record { number_short = omega arith; place_short = line_short r j p.0 }
  given_short (gives_TARGET r j p w) = record { number_short = omega arith; place_short = line_short r j p.0.0 }
  given_short (gives_CALLEE r j p w) = record { number_short = omega arith; place_short = line_short r j p.0.0.0 }

module _ (input : List ℕ) (known : Bytes input) where
  book_bytes : Bytes (book_read input)
  unfolding book_read
  book_bytes = bytes_in_front (length input - trailer_length) input known

  shop_short : {x : Refusal} → GivenInTheShop input x → ShortRefusal x
  unfolding number
  shop_short (shop_SHORT h) = at_0 (omega arith)
  shop_short (shop_LENGTH h l) = at_0 (omega arith)
  shop_short (shop_before h l (to_flatten_the_book g)) = given_short (book_read input) book_bytes g
  shop_short (shop_before h l (to_flatten_NO_ROUTINE t k)) = at_0 (omega arith)
  shop_short (shop_before h l (to_flatten_DEPTH t k o)) = at_0 (omega arith)
  shop_short (shop_before h l (to_flatten_TOO_LONG t k o m)) = at_0 (omega arith)

  -- ---- a run

  trailer_bytes : Bytes (trailer_read input)
  unfolding trailer_read
  trailer_bytes = bytes_behind (length input - trailer_length) input known

  budget_small : trailer_length ≤ length input → budget_read input < 10 ^ 20
  unfolding budget_read trailer_read
  budget_small h =
      let last = drop (2 + registers_length) (drop (length input - trailer_length) input) in
      let eight : length last ≡ 8 =
      omega (arith, length-drop (2 + registers_length) (drop (length input - trailer_length) input), length-drop (length input - trailer_length) input) in
      let below : low_byte_first last < 256 ^ length last = below_a_power last (bytes_behind (2 + registers_length) (trailer_read input) trailer_bytes) in
      omega (arith, rw eight at below)

  shop_run_within : trailer_length ≤ length input → Flattens (book_read input) (routine_read input) → length (print_run (shop_run input)) ≤ longest_answer
  unfolding shop_run registers_read registers_of
  shop_run_within h f =
      let fits = flat_program_fits (book_read input) f.taken (routine_read input) f.not_too_long in
      let given = drop 2 (trailer_read input) in
      let bytes = bytes_in_front registers_length given (bytes_behind 2 (trailer_read input) trailer_bytes) in
      run_within fits.ours (omega (arith, fits.not_too_long)) (budget_read input) (registers_read input) (budget_small h)
      (record {
        line_within = omega arith;
        registers_32 = length_listed _ 0 register_count;
        values_within = listed_within _ (λ j. two_byte_within (take registers_length given) bytes (2 * j)) 0 register_count;
      })

  -- ---- the law

  pub no_answer_is_longer : length (shop_prints input) ≤ longest_answer
  unfolding shop_prints shop_prints_by shop_verdict
  no_answer_is_longer = by_the_verdict (shop_verdict input) refl
    where
      by_the_verdict : (v : Verdict) → shop_verdict input ≡ v → length (shop_prints_by v (shop_run input)) ≤ longest_answer
      by_the_verdict (refuse x) e = refusal_within x (shop_short ((shop_given_exactly_when input x).0 e))
      by_the_verdict pass e =
          let h = finds_no_fault _ (below_tells (length input) trailer_length) e in
          let l = finds_no_fault _ (above_tells (length input) most_input) h.1 in
          shop_run_within h.0 ((flattens_exactly_when _ _).0 l.1)
