-- The quote is enough: a steady routine, run with a budget of at least its quote, ends by itself within the quote's steps.
-- What is left to do at a place (lines ahead at their quotes, a REPEAT at its register's present value) falls with every step.
use Prim.Native.Nat.{ℕ, zero, suc, ◌+◌, ◌*◌, ◌≤◌, ◌<◌}
use native.Mathlib.Omega.{arith}
use native.Mathlib.Nat.{le_of_eq, mul-le-mul_right, suc-mul}
use mathlib.Core.Bool.{Bool, true, false}
use mathlib.Core.Path.{◌≡◌, refl, sym, subst⁻¹}
use mathlib.Core.List.{List, [], ◌∷◌}
use lib.ListN.{drop}
use lib.Seq.{drop-nil}
use borrow.Author.Tests.{ltb-true, eqb-false}
use Rattle.scope.specs.Words.{◌is◌, if}
use Rattle.scope.specs.Book.{Line, INC, DEC, GO_TO, CALL, REPEAT, Book, routine, used, CalleesBelow}
use Rattle.scope.specs.Steps.{top, Registers, value, with_value, ValuesWithin, Next, at_the_end, before_full, goes_to, adds_one, takes_one_from, takes_one_off, ByItself, itself_FINISHED, itself_FULL, run_on, run_from}
use Rattle.scope.specs.Nested.{OpenedBy, a_CALL, a_REPEAT, Step, inc, dec, go_to, look, go_back, Place, ended, due, come_to, settle, nested_step, nested_next, nested_run}
use Rattle.scope.specs.Flattening.{sum_of, start}
use Rattle.scope.specs.Addresses.{begins}
use Rattle.scope.specs.Quote.{line_steady, steady, line_quote, quote_by, quote}
use Rattle.scope.specs.Enough.{raises, raised, steady_where_not_raised, EndsWithin, QuoteIsEnough}
use Rattle.scope.specs.Moves.{MovesTo, INC_is_a_step, DEC_is_a_step, GO_TO_is_a_step, REPEAT_looks, CALL_enters, CALL_goes_on, REPEAT_goes_back, asked_is_at_its_end}
use Rattle.scope.proofs.Registers.{taken_off, written_within, none_rises, others_stay}
use Rattle.scope.proofs.Lowest.{quote_by_the_rule}
use Rattle.scope.proofs.Moves.{settle_is_moved_to}
use Rattle.scope.proofs.Lists.{drop_tail}
use Rattle.scope.proofs.Places.{does_inc, does_dec, does_go_to, does_look, does_go_back, IsOpen, the_asked, called, repeated, Reached, the_end, a_step, ReachedAt, settle_keeps_address}
use Rattle.scope.proofs.Simulation.{simulation}
use Rattle.scope.proofs.Steady.{steady_is_steady_where_not_raised, line_is_steady, called_is_steady, repeated_is_steady, repeat_is_not_raised, not_raised_here, not_raised_below}

-- ---- what is left to do

module _ (book : Book) where
  -- lines at their quotes
  abbrev quoted : List Line → ℕ
  quoted ls = sum_of (line_quote (quote book)) ls

  -- a line with the present registers: a REPEAT will look as often as its register says, and once more
  present : Registers → Line → ℕ
  present rs (INC r) = 1
  present rs (DEC r t) = 1
  present rs (GO_TO t) = 1
  present rs (CALL c) = quote book c
  present rs (REPEAT r c) = value rs r * (quote book c + 2) + 1

  -- the first of these lines with the present registers, the others at their quotes
  from_here : Registers → List Line → ℕ
  from_here rs [] = 0
  from_here rs (l ∷ ls) = present rs l + quoted ls

  -- behind the open routine: after a CALL the lines behind it, after a REPEAT its way back and the REPEAT itself again
  left_around : Registers → List OpenedBy → ℕ
  left_around rs [] = 0
  left_around rs (a_CALL k i ∷ around) = quoted (drop (suc i) (routine book k)) + left_around rs around
  left_around rs (a_REPEAT k i ∷ around) = 1 + from_here rs (drop i (routine book k)) + left_around rs around

  way_back : Step → ℕ
  way_back (inc r) = 0
  way_back (dec r t) = 0
  way_back (go_to t) = 0
  way_back (look r c) = 0
  way_back (go_back c) = 1

  left : Registers → Place → ℕ
  left rs ended = 0
  left rs (due d k i around) = way_back d + from_here rs (drop i (routine book k)) + left_around rs around

-- ---- moves that cost no step leave no more to do

module _ (book : Book) (ok : CalleesBelow book) (rs : Registers) (low : ValuesWithin rs) where
  present_is_quoted : (l : Line) → present book rs l ≤ line_quote (quote book) l
  unfolding present line_quote ValuesWithin
  present_is_quoted (INC r) = omega arith
  present_is_quoted (DEC r t) = omega arith
  present_is_quoted (GO_TO t) = omega arith
  present_is_quoted (CALL c) = omega arith
  present_is_quoted (REPEAT r c) = omega (arith, mul-le-mul_right (quote book c + 2) (low r))

  due_leaves_no_more :
      {l : Line} {rest : List Line} (d : Step) (k i : ℕ) (around : List OpenedBy) → drop i (routine book k) ≡ l ∷ rest → way_back book d ≡ 0
      → left book rs (due d k i around) ≤ quoted book (drop i (routine book k)) + left_around book rs around
  unfolding left from_here sum_of
  due_leaves_no_more {l} d k i around e no_way_back = rw e (omega (arith, no_way_back, present_is_quoted l))

  moves_leave_no_more :
      {k i : ℕ} {around : List OpenedBy} {place : Place} → MovesTo book k i around place
      → left book rs place ≤ quoted book (drop i (routine book k)) + left_around book rs around
  unfolding left left_around way_back sum_of line_quote quote_by
  moves_leave_no_more {k = k} {i = i} {around = around} (INC_is_a_step {r = r} e) = due_leaves_no_more (inc r) k i around e refl
  moves_leave_no_more {k = k} {i = i} {around = around} (DEC_is_a_step {r = r} {t = t} e) = due_leaves_no_more (dec r t) k i around e refl
  moves_leave_no_more {k = k} {i = i} {around = around} (GO_TO_is_a_step {t = t} e) = due_leaves_no_more (go_to t) k i around e refl
  moves_leave_no_more {k = k} {i = i} {around = around} (REPEAT_looks {r = r} {c = c} e) = due_leaves_no_more (look r c) k i around e refl
  moves_leave_no_more {k = k} {i = i} (CALL_enters {c = c} {rest = rest} e m) =
      let behind : quoted book (drop (suc i) (routine book k)) ≡ quoted book rest = rw (drop_tail (routine book k) i e) refl in
      let its_quote : quoted book (routine book c) ≡ quote book c = sym (quote_by_the_rule book ok c) in
      rw e (omega (arith, moves_leave_no_more m, behind, its_quote))
  moves_leave_no_more (CALL_goes_on d m) = rw d (omega (arith, moves_leave_no_more m))
  moves_leave_no_more (REPEAT_goes_back d) = omega arith
  moves_leave_no_more (asked_is_at_its_end d) = omega arith

  settle_leaves_no_more :
      (k i : ℕ) (around : List OpenedBy)
      → left book rs (settle book k i around) ≤ quoted book (drop i (routine book k)) + left_around book rs around
  settle_leaves_no_more k i around = moves_leave_no_more (settle_is_moved_to book ok k i around)

-- ---- a register that is not raised does not rise around

module _ (book : Book) (ok : CalleesBelow book) (asked : ℕ) (steady_asked : steady_where_not_raised book asked ≡ true) where
  open_is_steady : {k : ℕ} {around : List OpenedBy} → IsOpen book asked k around → steady_where_not_raised book k ≡ true
  open_is_steady the_asked = steady_asked
  open_is_steady (called {k = k} {i = i} e o) = called_is_steady book ok k i (open_is_steady o) e
  open_is_steady (repeated {k = k} {i = i} e o) = repeated_is_steady book ok k i (open_is_steady o) e

  -- No register that routine k does not raise stands higher in ss than in rs.
  abbrev NoneRisen : ℕ → Registers → Registers → Type 0
  NoneRisen k rs ss = (j : ℕ) → raised book j k ≡ false → value ss j ≤ value rs j

  repeat_does_not_rise :
      {r c : ℕ} {rest : List Line} (rs ss : Registers) (k i : ℕ) → drop i (routine book k) ≡ REPEAT r c ∷ rest → value ss r ≤ value rs r
      → from_here book ss (drop i (routine book k)) ≤ from_here book rs (drop i (routine book k))
  unfolding from_here present
  repeat_does_not_rise {r} {c} rs ss k i e h = rw e (omega (arith, mul-le-mul_right (quote book c + 2) h))

  around_does_not_rise :
      {k : ℕ} {around : List OpenedBy} (rs ss : Registers) → IsOpen book asked k around → NoneRisen k rs ss
      → left_around book ss around ≤ left_around book rs around
  unfolding left_around used
  around_does_not_rise rs ss the_asked h = omega arith
  around_does_not_rise {around = a_CALL k i ∷ around} rs ss (called e o) h =
      omega (arith, around_does_not_rise rs ss o (λ j n. h j (not_raised_below book ok j k i n e)))
  around_does_not_rise {around = a_REPEAT k i ∷ around} rs ss (repeated {r = r} {c = c} e o) h =
      let here = repeat_does_not_rise rs ss k i e (h r (repeat_is_not_raised book ok k i (open_is_steady o) e)) in
      omega (arith, here, around_does_not_rise rs ss o (λ j n. h j (not_raised_below book ok j k i n e)))

  -- ---- every step leaves less to do

  quoted_from_further_on : (ls : List Line) (i t : ℕ) → i ≤ t → quoted book (drop t ls) ≤ quoted book (drop i ls)
  unfolding sum_of
  quoted_from_further_on [] i t h = rw (drop-nil {A = Line} t) (omega arith)
  quoted_from_further_on (x ∷ ls) zero zero h = omega arith
  quoted_from_further_on (x ∷ ls) zero (suc t) h = omega (arith, quoted_from_further_on ls zero t (omega arith))
  quoted_from_further_on (x ∷ ls) (suc i) zero h = absurd (omega arith)
  quoted_from_further_on (x ∷ ls) (suc i) (suc t) h = quoted_from_further_on ls i t (omega arith)

  data Falls (before : ℕ) : Next Place → Type 0 where
    is_at_the_end : Falls before at_the_end
    is_full : {r : ℕ} → 0 < before → Falls before (before_full r)
    falls :
        {place : Place} {rs : Registers} → Reached book asked place → ValuesWithin rs → left book rs place < before
        → Falls before (goes_to place rs)

  settled : (k i : ℕ) (around : List OpenedBy) → IsOpen book asked k around → Reached book asked (settle book k i around)
  settled k i around o =
      let there : ReachedAt book asked (settle book k i around) (begins book around + start book k i) =
      settle_keeps_address book ok asked k i around o refl in
      there.reached

  -- going on in the same routine, to a later line
  further_on :
      {l : Line} {rest : List Line} (rs ss : Registers) (k i t : ℕ) (around : List OpenedBy) → drop i (routine book k) ≡ l ∷ rest
      → IsOpen book asked k around → i < t → 0 < present book rs l → NoneRisen k rs ss → ValuesWithin ss
      → left book ss (settle book k t around) < from_here book rs (drop i (routine book k)) + left_around book rs around
  unfolding from_here
  further_on {l} {rest} rs ss k i t around e o lt some h low =
      let on = settle_leaves_no_more book ok ss low k t around in
      let later = quoted_from_further_on (routine book k) (suc i) t (omega arith) in
      let next : quoted book (drop (suc i) (routine book k)) ≡ quoted book rest = rw (drop_tail (routine book k) i e) refl in
      rw e (omega (arith, on, later, next, some, around_does_not_rise rs ss o h))

  jump_falls :
      {l : Line} {rest : List Line} (d : Step) (rs : Registers) (k i t : ℕ) (around : List OpenedBy) → way_back book d ≡ 0
      → drop i (routine book k) ≡ l ∷ rest → IsOpen book asked k around → i < t → 0 < present book rs l → ValuesWithin rs
      → Falls (left book rs (due d k i around)) (goes_to (settle book k t around) rs)
  unfolding left
  jump_falls d rs k i t around no_way_back e o lt some low =
      falls (settled k t around o) low (omega (arith, no_way_back, further_on rs rs k i t around e o lt some (λ j n. omega arith) low))

  add_one_falls :
      {rest : List Line} (rs : Registers) (k i r : ℕ) (around : List OpenedBy) → drop i (routine book k) ≡ INC r ∷ rest
      → IsOpen book asked k around → ValuesWithin rs
      → Falls (left book rs (due (inc r) k i around)) (adds_one r rs (settle book k (suc i) around))
  unfolding adds_one if left way_back ValuesWithin raises present from_here
  add_one_falls {rest} rs k i r around e o low = by_test (value rs r is top) refl
    where
      ss : Registers
      ss = with_value rs r (suc (value rs r))

      by_test :
          (t : Bool) → (value rs r is top) ≡ t
          → Falls (left book rs (due (inc r) k i around)) (if t (before_full r) (goes_to (settle book k (suc i) around) ss))
      by_test true t = is_full (rw e (omega arith))
      by_test false t =
          let below : suc (value rs r) ≤ top = omega (arith, low r, eqb-false (value rs r) top t) in
          let low_still : ValuesWithin ss = written_within rs r (suc (value rs r)) below low in
          let none_risen : NoneRisen k rs ss = λ j n. le_of_eq (others_stay rs r (suc (value rs r)) j (not_raised_here book ok j k i n e)) in
          falls (settled k (suc i) around o) low_still
          (omega (arith, further_on rs ss k i (suc i) around e o (omega arith) (omega arith) none_risen low_still))

  stays_low : (rs : Registers) (r v : ℕ) → value rs r ≡ suc v → ValuesWithin rs → ValuesWithin (with_value rs r v)
  unfolding ValuesWithin
  stays_low rs r v e low = written_within rs r v (omega (arith, low r)) low

  dec_falls :
      {rest : List Line} (rs : Registers) (k i r t : ℕ) (around : List OpenedBy) → drop i (routine book k) ≡ DEC r t ∷ rest
      → IsOpen book asked k around → ValuesWithin rs
      → Falls (left book rs (due (dec r t) k i around)) (takes_one_off r rs (settle book k (suc i) around) (settle book k t around))
  unfolding takes_one_off takes_one_from left way_back present line_steady
  dec_falls {rest} rs k i r t around e o low = by_value (value rs r) refl
    where
      by_value :
          (v : ℕ) → value rs r ≡ v
          → Falls (left book rs (due (dec r t) k i around)) (takes_one_from v r rs (settle book k (suc i) around) (settle book k t around))
      by_value zero z =
          let above = ltb-true i t (line_is_steady book ok k i (open_is_steady o) e) in
          jump_falls (dec r t) rs k i t around refl e o above (omega arith) low
      by_value (suc v) z =
          let low_still = stays_low rs r v z low in
          let none_risen : NoneRisen k rs (with_value rs r v) = λ j n. none_rises rs r v j (omega arith) in
          falls (settled k (suc i) around o) low_still
          (omega (arith, further_on rs (with_value rs r v) k i (suc i) around e o (omega arith) (omega arith) none_risen low_still))

  look_falls :
      {rest : List Line} (rs : Registers) (k i r c : ℕ) (around : List OpenedBy) → drop i (routine book k) ≡ REPEAT r c ∷ rest
      → IsOpen book asked k around → ValuesWithin rs
      → Falls (left book rs (due (look r c) k i around)) (takes_one_off r rs (settle book c 0 (a_REPEAT k i ∷ around)) (settle book k (suc i) around))
  unfolding takes_one_off takes_one_from left way_back present left_around from_here quote_by
  look_falls {rest} rs k i r c around e o low = by_value (value rs r) refl
    where
      by_value :
          (v : ℕ) → value rs r ≡ v
          → Falls (left book rs (due (look r c) k i around)) (takes_one_from v r rs (settle book c 0 (a_REPEAT k i ∷ around)) (settle book k (suc i) around))
      by_value zero z =
          jump_falls (look r c) rs k i (suc i) around refl e o (omega arith) (omega arith) low
      by_value (suc v) z =
          let ss = with_value rs r v in
          let low_still = stays_low rs r v z low in
          let in_c = settle_leaves_no_more book ok ss low_still c 0 (a_REPEAT k i ∷ around) in
          let its_quote : quoted book (routine book c) ≡ quote book c = sym (quote_by_the_rule book ok c) in
          let again : from_here book ss (drop i (routine book k)) ≡ v * (quote book c + 2) + 1 + quoted book rest = rw (e, taken_off rs r v z) refl in
          let around_it = around_does_not_rise rs ss o (λ j n. none_rises rs r v j (omega arith)) in
          let before : from_here book rs (drop i (routine book k)) ≡ suc v * (quote book c + 2) + 1 + quoted book rest = rw (e, z) refl in
          falls (settled c 0 (a_REPEAT k i ∷ around) (repeated e o)) low_still
          (omega (arith, in_c, its_quote, again, before, suc-mul v (quote book c + 2), around_it))

  look_again_falls :
      {rest : List Line} (rs : Registers) (k i r c : ℕ) (around : List OpenedBy) → drop i (routine book k) ≡ REPEAT r c ∷ rest
      → IsOpen book asked k around → ValuesWithin rs
      → Falls (left book rs (due (go_back c) k i around)) (goes_to (settle book k i around) rs)
  unfolding left way_back settle come_to
  look_again_falls rs k i r c around e o low =
      let looks : settle book k i around ≡ due (look r c) k i around = rw e refl in
      falls (settled k i around o) low (rw looks (omega arith))

  step_falls :
      {place : Place} (rs : Registers) → Reached book asked place → ValuesWithin rs → Falls (left book rs place) (nested_next book place rs)
  unfolding nested_next nested_step present way_back line_steady
  step_falls rs the_end low = is_at_the_end
  step_falls {place = due d k i around} rs (a_step e (does_inc {r = r}) o) low = add_one_falls rs k i r around e o low
  step_falls {place = due d k i around} rs (a_step e (does_dec {r = r} {t = t}) o) low = dec_falls rs k i r t around e o low
  step_falls {place = due d k i around} rs (a_step e (does_go_to {t = t}) o) low =
      jump_falls (go_to t) rs k i t around refl e o (ltb-true i t (line_is_steady book ok k i (open_is_steady o) e)) (omega arith) low
  step_falls {place = due d k i around} rs (a_step e (does_look {r = r} {c = c}) o) low = look_falls rs k i r c around e o low
  step_falls {place = due d k i around} rs (a_step e (does_go_back {r = r} {c = c}) o) low = look_again_falls rs k i r c around e o low

  -- ---- so the run ends by itself

  run_stops :
      (budget done n : ℕ) (place : Place) (rs : Registers) {next : Next Place} → Falls n next → n ≤ budget
      → EndsWithin (done + n) (run_on (nested_next book) budget done place rs next)
  unfolding run_on
  run_stops zero done n place rs is_at_the_end h = record { by_itself = itself_FINISHED; within = omega arith }
  run_stops zero done n place rs (is_full some) h = absurd (omega arith)
  run_stops zero done n place rs (falls g low lt) h = absurd (omega arith)
  run_stops (suc budget) done n place rs is_at_the_end h = record { by_itself = itself_FINISHED; within = omega arith }
  run_stops (suc budget) done n place rs (is_full some) h = record { by_itself = itself_FULL; within = omega arith }
  run_stops (suc budget) done n place rs (falls {place = place'} {rs = rs'} g low lt) h =
      let on = run_stops budget (suc done) (left book rs' place') place' rs' (step_falls rs' g low) (omega (arith, lt, h)) in
      record { by_itself = on.by_itself; within = omega (arith, on.within, lt) }

  nested_run_stops :
      (budget : ℕ) (rs : Registers) → ValuesWithin rs → quote book asked ≤ budget
      → EndsWithin (quote book asked) (nested_run book asked budget rs)
  unfolding nested_run run_from quote_by left_around
  nested_run_stops budget rs low h =
      let first = settle book asked 0 [] in
      let its_quote : quoted book (routine book asked) ≡ quote book asked = sym (quote_by_the_rule book ok asked) in
      let at_first = settle_leaves_no_more book ok rs low asked 0 [] in
      let down = step_falls rs (settled asked 0 [] the_asked) low in
      let on = run_stops budget 0 (left book rs first) first rs down (omega (arith, at_first, its_quote, h)) in
      record { by_itself = on.by_itself; within = omega (arith, on.within, at_first, its_quote) }

-- ---- the law

-- for every routine whose REPEATs' registers are not raised by INC in or under the repeated routine
pub quote_enough_where_not_raised :
    (book : Book) → CalleesBelow book → (k budget : ℕ) (rs : Registers) → steady_where_not_raised book k ≡ true → ValuesWithin rs
    → quote book k ≤ budget → QuoteIsEnough book k budget rs
quote_enough_where_not_raised book ok k budget rs s low h =
    let n = nested_run_stops book ok k s budget rs low h in
    let same = simulation book ok k budget rs in
    record {
      nested = n;
      flat = record { by_itself = subst⁻¹ ByItself same.same_outcome n.by_itself; within = rw same.same_steps n.within };
    }

-- Demand 3: a steady routine, run from its first line with a budget of at least the quote, never ends OUT OF STEPS.
pub quote_enough :
    (book : Book) → CalleesBelow book → (k budget : ℕ) (rs : Registers) → steady book k ≡ true → ValuesWithin rs → quote book k ≤ budget
    → QuoteIsEnough book k budget rs
quote_enough book ok k budget rs s =
    quote_enough_where_not_raised book ok k budget rs (steady_is_steady_where_not_raised book k s)
