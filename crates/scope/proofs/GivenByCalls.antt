-- Reading, flattening, quoting, running, the bench step and the shop's program are refused exactly when document 01 says so.
-- The book's own refusals come first; then each call's tests are taken apart in their order. Assumes nothing.
use Prim.Native.Nat.{ℕ, ◌<◌, ◌≤◌}
use mathlib.Core.Bool.{Bool, not}
use mathlib.Core.Path.{◌≡◌, ◌∙◌}
use mathlib.Core.Logic.{◌↔◌, ◌≢◌, ⊎_elim}
use mathlib.Core.List.{List}
use lib.ListN.{length}
use Rattle.scope.specs.Words.{◌is_not◌, ◌above◌, ◌below◌, ◌not_below◌}
use Rattle.scope.specs.Refusals.{Refusal, Verdict, pass, refuse, ◌and_then◌}
use Rattle.scope.specs.Book.{routines, lines, count, book_verdict, Taken, book_of, read_verdict}
use Rattle.scope.specs.Steps.{register_count, Registers}
use Rattle.scope.specs.Flattening.{flat_length, flat_book_bytes, most_flat_lines, most_open, depth, flattens_verdict, flatten_verdict}
use Rattle.scope.specs.Running.{run_verdict, bench_verdict}
use Rattle.scope.specs.Quote.{steady, quote, most_quote, quote_verdict}
use Rattle.scope.specs.Page.{registers_length}
use Rattle.scope.specs.Shop.{book_read, routine_read, trailer_length, most_input, shop_verdict}
use Rattle.scope.specs.Depth.{OpensTooMany}
use Rattle.scope.specs.SteadyWords.{SteadyRoutine}
use Rattle.scope.specs.Given.{Given}
use Rattle.scope.specs.GivenByCalls.{GivenReading, reading_the_book, reading_NO_ROUTINE, reading_LINE, GivenToFlatten, to_flatten_the_book, to_flatten_NO_ROUTINE, to_flatten_DEPTH, to_flatten_TOO_LONG, Flattens, GivenFlattening, flattening_before, flattening_NO_ROOM, GivenQuote, quote_before, quote_NOT_STEADY, quote_QUOTE, Quotes, GivenRunning, running_the_book, running_NOT_FLAT, running_REGISTERS, running_LINE, GivenBench, bench_the_book, bench_NOT_FLAT, bench_LINE, GivenInTheShop, shop_SHORT, shop_LENGTH, shop_before}
use Rattle.scope.proofs.Verdicts.{Tells, no_fault, exactly_tells, above_tells, below_tells, not_below_tells, is_not_tells, not_tells, pass_is_no_refusal, refuses, goes_on, which_refuses, finds_no_fault, then_goes_on, then_refuses, which_then_refuses, then_passes}
use Rattle.scope.proofs.GivenExactlyWhen.{given_exactly_when}
use Rattle.scope.proofs.TakenBook.{taken_callees_below}
use Rattle.scope.proofs.Depth.{depth_tells}
use Rattle.scope.proofs.SteadyWords.{steady_exactly}

-- A refusal of a call is the book's, or the book is taken and the refusal is one of the call's own tests.
after_the_book : {b : List ℕ} {v : Verdict} {x : Refusal} (C : Refusal → Type 0) → (Given b x → C x) → (Taken b → v ≡ refuse x → C x)
    → book_verdict b and_then v ≡ refuse x → C x
after_the_book {b} {x} C f g e =
    ⊎_elim (λ r. f ((given_exactly_when b x).0 r)) (λ r. g r.0 r.1) (which_then_refuses (book_verdict b) e)

the_book_refuses : {b : List ℕ} {x : Refusal} (v : Verdict) → Given b x → book_verdict b and_then v ≡ refuse x
the_book_refuses {b} {x} v g = then_refuses v ((given_exactly_when b x).1 g)

-- 12 NO ROUTINE: asked routine not below R
no_routine_tells : (b : List ℕ) (k : ℕ) → Tells (k not_below routines b) (routines b ≤ k) (k < routines b)
no_routine_tells b k = not_below_tells k (routines b)

-- ---- reading

-- 17 LINE: line to read not below its routine's count
no_line_tells : (b : List ℕ) (r j : ℕ) → Tells (j not_below count b r) (count b r ≤ j) (j < count b r)
no_line_tells b r j = not_below_tells j (count b r)

reading_gives : (b : List ℕ) (r j : ℕ) (x : Refusal) → read_verdict b r j ≡ refuse x → GivenReading b r j x
unfolding read_verdict
reading_gives b r j x =
    let C = GivenReading b r j in
    after_the_book C reading_the_book λ t.
    which_refuses C (no_routine_tells b r) (reading_NO_ROUTINE t) λ h.
    which_refuses C (no_line_tells b r j) (reading_LINE t h) λ l e. absurd (pass_is_no_refusal e)

reading_refuses : (b : List ℕ) (r j : ℕ) (x : Refusal) → GivenReading b r j x → read_verdict b r j ≡ refuse x
unfolding read_verdict
reading_refuses b r j x (reading_the_book g) = the_book_refuses _ g
reading_refuses b r j x (reading_NO_ROUTINE t h) = then_goes_on _ t ∙ refuses _ _ (no_routine_tells b r) h
reading_refuses b r j x (reading_LINE t h l) = then_goes_on _ t ∙ goes_on _ _ (no_routine_tells b r) h ∙ refuses _ _ (no_line_tells b r j) l

pub reading_passes : (b : List ℕ) (r j : ℕ) → Taken b → r < routines b → j < count b r → read_verdict b r j ≡ pass
unfolding read_verdict
reading_passes b r j t h l = then_goes_on _ t ∙ goes_on _ _ (no_routine_tells b r) h ∙ goes_on _ _ (no_line_tells b r j) l

pub reading_given_exactly_when : (b : List ℕ) (r j : ℕ) (x : Refusal) → (read_verdict b r j ≡ refuse x) ↔ GivenReading b r j x
reading_given_exactly_when b r j x = (reading_gives b r j x, reading_refuses b r j x)

-- ---- what flattening and the quote share

-- 11 DEPTH: more than 32 routines open inside one another
too_deep_tells :
    (b : List ℕ) (k : ℕ) → Taken b
    → Tells (depth (book_of b) k above most_open) (OpensTooMany (book_of b) k) (¬ OpensTooMany (book_of b) k)
too_deep_tells b k t = depth_tells (book_of b) (taken_callees_below b t) k

-- 13 TOO LONG: flat length above 4,096
too_long_tells : (b : List ℕ) (k : ℕ)
    → Tells (flat_length (book_of b) k above most_flat_lines) (most_flat_lines < flat_length (book_of b) k) (flat_length (book_of b) k ≤ most_flat_lines)
too_long_tells b k = above_tells (flat_length (book_of b) k) most_flat_lines

to_flatten_gives : (b : List ℕ) (k : ℕ) (x : Refusal) → flattens_verdict b k ≡ refuse x → GivenToFlatten b k x
unfolding flattens_verdict
to_flatten_gives b k x =
    let C = GivenToFlatten b k in
    after_the_book C to_flatten_the_book λ t.
    which_refuses C (no_routine_tells b k) (to_flatten_NO_ROUTINE t) λ h.
    which_refuses C (too_deep_tells b k t) (to_flatten_DEPTH t h) λ d.
    which_refuses C (too_long_tells b k) (to_flatten_TOO_LONG t h d) λ l e. absurd (pass_is_no_refusal e)

to_flatten_refuses : (b : List ℕ) (k : ℕ) (x : Refusal) → GivenToFlatten b k x → flattens_verdict b k ≡ refuse x
unfolding flattens_verdict
to_flatten_refuses b k x (to_flatten_the_book g) = the_book_refuses _ g
to_flatten_refuses b k x (to_flatten_NO_ROUTINE t h) = then_goes_on _ t ∙ refuses _ _ (no_routine_tells b k) h
to_flatten_refuses b k x (to_flatten_DEPTH t h d) = then_goes_on _ t ∙ goes_on _ _ (no_routine_tells b k) h ∙ refuses _ _ (too_deep_tells b k t) d
to_flatten_refuses b k x (to_flatten_TOO_LONG t h d l) =
    then_goes_on _ t ∙ goes_on _ _ (no_routine_tells b k) h ∙ goes_on _ _ (too_deep_tells b k t) d ∙ refuses _ _ (too_long_tells b k) l

pub to_flatten_given_exactly_when : (b : List ℕ) (k : ℕ) (x : Refusal) → (flattens_verdict b k ≡ refuse x) ↔ GivenToFlatten b k x
to_flatten_given_exactly_when b k x = (to_flatten_gives b k x, to_flatten_refuses b k x)

all_pass : (b : List ℕ) (k : ℕ) → flattens_verdict b k ≡ pass → Flattens b k
unfolding flattens_verdict
all_pass b k e =
    let t = then_passes (book_verdict b) e in
    let h = finds_no_fault _ (no_routine_tells b k) t.1 in
    let d = finds_no_fault _ (too_deep_tells b k t.0) h.1 in
    let l = finds_no_fault _ (too_long_tells b k) d.1 in
    record { taken = t.0; a_routine = h.0; not_too_deep = d.0; not_too_long = l.0 }

none_refuses : (b : List ℕ) (k : ℕ) → Flattens b k → flattens_verdict b k ≡ pass
unfolding flattens_verdict
none_refuses b k f =
    then_goes_on _ f.taken ∙ goes_on _ _ (no_routine_tells b k) f.a_routine
    ∙ goes_on _ _ (too_deep_tells b k f.taken) f.not_too_deep ∙ goes_on _ _ (too_long_tells b k) f.not_too_long

pub flattens_exactly_when : (b : List ℕ) (k : ℕ) → (flattens_verdict b k ≡ pass) ↔ Flattens b k
flattens_exactly_when b k = (all_pass b k, none_refuses b k)

-- A refusal of flattening or of the quote is one of these, or the routine flattens and the refusal is one of the call's own tests.
after_these : (b : List ℕ) (k : ℕ) {v : Verdict} {x : Refusal} (C : Refusal → Type 0) → (GivenToFlatten b k x → C x)
    → (Flattens b k → v ≡ refuse x → C x) → flattens_verdict b k and_then v ≡ refuse x → C x
after_these b k {x = x} C f g e =
    ⊎_elim (λ r. f (to_flatten_gives b k x r)) (λ r. g (all_pass b k r.0) r.1) (which_then_refuses (flattens_verdict b k) e)

-- ---- flattening

-- 14 NO ROOM: output shorter than 16 + 4n bytes
no_room_tells : (b : List ℕ) (k room : ℕ)
    → Tells (room below flat_book_bytes (flat_length (book_of b) k)) (room < flat_book_bytes (flat_length (book_of b) k)) (flat_book_bytes (flat_length (book_of b) k) ≤ room)
no_room_tells b k room = below_tells room (flat_book_bytes (flat_length (book_of b) k))

flattening_gives : (b : List ℕ) (k room : ℕ) (x : Refusal) → flatten_verdict b k room ≡ refuse x → GivenFlattening b k room x
unfolding flatten_verdict
flattening_gives b k room x =
    let C = GivenFlattening b k room in
    after_these b k C flattening_before λ f.
    which_refuses C (no_room_tells b k room) (flattening_NO_ROOM f) λ n e. absurd (pass_is_no_refusal e)

flattening_refuses : (b : List ℕ) (k room : ℕ) (x : Refusal) → GivenFlattening b k room x → flatten_verdict b k room ≡ refuse x
unfolding flatten_verdict
flattening_refuses b k room x (flattening_before g) = then_refuses _ (to_flatten_refuses b k x g)
flattening_refuses b k room x (flattening_NO_ROOM f h) = then_goes_on _ (none_refuses b k f) ∙ refuses _ _ (no_room_tells b k room) h

pub flattening_passes :
    (b : List ℕ) (k room : ℕ) → Flattens b k → flat_book_bytes (flat_length (book_of b) k) ≤ room → flatten_verdict b k room ≡ pass
unfolding flatten_verdict
flattening_passes b k room f h = then_goes_on _ (none_refuses b k f) ∙ goes_on _ _ (no_room_tells b k room) h

pub flattening_given_exactly_when :
    (b : List ℕ) (k room : ℕ) (x : Refusal) → (flatten_verdict b k room ≡ refuse x) ↔ GivenFlattening b k room x
flattening_given_exactly_when b k room x = (flattening_gives b k room x, flattening_refuses b k room x)

-- ---- the quote

-- 18 NOT STEADY: the routine is not steady
not_steady_tells :
    (b : List ℕ) (k : ℕ) → Taken b
    → Tells (not (steady (book_of b) k)) (¬ SteadyRoutine (book_of b) k) (SteadyRoutine (book_of b) k)
not_steady_tells b k t = not_tells (exactly_tells (steady_exactly (book_of b) (taken_callees_below b t) k))

-- 19 QUOTE: quote above 2^64-1
quote_tells :
    (b : List ℕ) (k : ℕ)
    → Tells (quote (book_of b) k above most_quote) (most_quote < quote (book_of b) k) (quote (book_of b) k ≤ most_quote)
quote_tells b k = above_tells (quote (book_of b) k) most_quote

quote_gives : (b : List ℕ) (k : ℕ) (x : Refusal) → quote_verdict b k ≡ refuse x → GivenQuote b k x
unfolding quote_verdict
quote_gives b k x =
    let C = GivenQuote b k in
    after_these b k C quote_before λ f.
    which_refuses C (not_steady_tells b k f.taken) (quote_NOT_STEADY f) λ s.
    which_refuses C (quote_tells b k) (quote_QUOTE f s) λ n e. absurd (pass_is_no_refusal e)

quote_refuses : (b : List ℕ) (k : ℕ) (x : Refusal) → GivenQuote b k x → quote_verdict b k ≡ refuse x
unfolding quote_verdict
quote_refuses b k x (quote_before g) = then_refuses _ (to_flatten_refuses b k x g)
quote_refuses b k x (quote_NOT_STEADY f s) = then_goes_on _ (none_refuses b k f) ∙ refuses _ _ (not_steady_tells b k f.taken) s
quote_refuses b k x (quote_QUOTE f s q) =
    then_goes_on _ (none_refuses b k f) ∙ goes_on _ _ (not_steady_tells b k f.taken) s ∙ refuses _ _ (quote_tells b k) q

pub quotes_exactly_when : (b : List ℕ) (k : ℕ) → (quote_verdict b k ≡ pass) ↔ Quotes b k
unfolding quote_verdict
quotes_exactly_when b k = (
  λ e.
      let f = then_passes (flattens_verdict b k) e in
      let flattens = all_pass b k f.0 in
      let s = finds_no_fault _ (not_steady_tells b k flattens.taken) f.1 in
      let q = finds_no_fault _ (quote_tells b k) s.1 in
      record { flattens = flattens; a_steady_one = s.0; not_too_high = q.0 },
  λ w.
      then_goes_on _ (none_refuses b k w.flattens) ∙ goes_on _ _ (not_steady_tells b k w.flattens.taken) w.a_steady_one
      ∙ goes_on _ _ (quote_tells b k) w.not_too_high,
)

pub quote_given_exactly_when : (b : List ℕ) (k : ℕ) (x : Refusal) → (quote_verdict b k ≡ refuse x) ↔ GivenQuote b k x
quote_given_exactly_when b k x = (quote_gives b k x, quote_refuses b k x)

-- ---- running

-- 15 NOT FLAT: more than one routine
not_flat_tells : (b : List ℕ) → Tells (routines b above 1) (1 < routines b) (routines b ≤ 1)
not_flat_tells b = above_tells (routines b) 1

-- 17 LINE: start line or state's line above n
past_the_end_tells : (b : List ℕ) (line : ℕ) → Tells (line above lines b) (lines b < line) (line ≤ lines b)
past_the_end_tells b line = above_tells line (lines b)

module _ (b : List ℕ) {not_32 : Bool} {Not32 : Type 0} (start : ℕ) (i : Tells not_32 Not32 (¬ Not32)) where
  running_gives : (x : Refusal) → run_verdict b not_32 start ≡ refuse x → GivenRunning b Not32 start x
  unfolding run_verdict
  running_gives x =
      let C = GivenRunning b Not32 start in
      after_the_book C running_the_book λ t.
      which_refuses C (not_flat_tells b) (running_NOT_FLAT t) λ h.
      which_refuses C i (running_REGISTERS t h) λ n.
      which_refuses C (past_the_end_tells b start) (running_LINE t h n) λ l e. absurd (pass_is_no_refusal e)

  running_refuses : (x : Refusal) → GivenRunning b Not32 start x → run_verdict b not_32 start ≡ refuse x
  unfolding run_verdict
  running_refuses x (running_the_book g) = the_book_refuses _ g
  running_refuses x (running_NOT_FLAT t h) = then_goes_on _ t ∙ refuses _ _ (not_flat_tells b) h
  running_refuses x (running_REGISTERS t h n) = then_goes_on _ t ∙ goes_on _ _ (not_flat_tells b) h ∙ refuses _ _ i n
  running_refuses x (running_LINE t h n l) =
      then_goes_on _ t ∙ goes_on _ _ (not_flat_tells b) h ∙ goes_on _ _ i n ∙ refuses _ _ (past_the_end_tells b start) l

  pub running_passes : Taken b → routines b ≤ 1 → ¬ Not32 → start ≤ lines b → run_verdict b not_32 start ≡ pass
  unfolding run_verdict
  running_passes t h n l =
      then_goes_on _ t ∙ goes_on _ _ (not_flat_tells b) h ∙ goes_on _ _ i n ∙ goes_on _ _ (past_the_end_tells b start) l

  -- for every test that tells whether the lent registers are not 32, ..
  pub running_given_exactly_when : (x : Refusal) → (run_verdict b not_32 start ≡ refuse x) ↔ GivenRunning b Not32 start x
  running_given_exactly_when x = (running_gives x, running_refuses x)

-- .. a list of registers, ..
pub running_with_registers : (b : List ℕ) (rs : Registers) (start : ℕ) (x : Refusal)
    → (run_verdict b (length rs is_not register_count) start ≡ refuse x) ↔ GivenRunning b (length rs ≢ register_count) start x
running_with_registers b rs start x = running_given_exactly_when b start (no_fault (is_not_tells (length rs) register_count)) x

-- .. and the page's bytes.
pub running_with_bytes : (b bytes : List ℕ) (start : ℕ) (x : Refusal)
    → (run_verdict b (length bytes is_not registers_length) start ≡ refuse x) ↔ GivenRunning b (length bytes ≢ registers_length) start x
running_with_bytes b bytes start x = running_given_exactly_when b start (no_fault (is_not_tells (length bytes) registers_length)) x

-- ---- the bench step

bench_gives : (b : List ℕ) (line : ℕ) (x : Refusal) → bench_verdict b line ≡ refuse x → GivenBench b line x
unfolding bench_verdict
bench_gives b line x =
    let C = GivenBench b line in
    after_the_book C bench_the_book λ t.
    which_refuses C (not_flat_tells b) (bench_NOT_FLAT t) λ h.
    which_refuses C (past_the_end_tells b line) (bench_LINE t h) λ l e. absurd (pass_is_no_refusal e)

bench_refuses : (b : List ℕ) (line : ℕ) (x : Refusal) → GivenBench b line x → bench_verdict b line ≡ refuse x
unfolding bench_verdict
bench_refuses b line x (bench_the_book g) = the_book_refuses _ g
bench_refuses b line x (bench_NOT_FLAT t h) = then_goes_on _ t ∙ refuses _ _ (not_flat_tells b) h
bench_refuses b line x (bench_LINE t h l) = then_goes_on _ t ∙ goes_on _ _ (not_flat_tells b) h ∙ refuses _ _ (past_the_end_tells b line) l

pub bench_passes : (b : List ℕ) (line : ℕ) → Taken b → routines b ≤ 1 → line ≤ lines b → bench_verdict b line ≡ pass
unfolding bench_verdict
bench_passes b line t h l = then_goes_on _ t ∙ goes_on _ _ (not_flat_tells b) h ∙ goes_on _ _ (past_the_end_tells b line) l

pub bench_given_exactly_when : (b : List ℕ) (line : ℕ) (x : Refusal) → (bench_verdict b line ≡ refuse x) ↔ GivenBench b line x
bench_given_exactly_when b line x = (bench_gives b line x, bench_refuses b line x)

-- ---- the shop's program

shop_gives : (input : List ℕ) (x : Refusal) → shop_verdict input ≡ refuse x → GivenInTheShop input x
unfolding shop_verdict
shop_gives input x =
    which_refuses (GivenInTheShop input) (below_tells (length input) trailer_length) shop_SHORT λ h.
    which_refuses (GivenInTheShop input) (above_tells (length input) most_input) (shop_LENGTH h) λ l e.
    shop_before h l (to_flatten_gives _ _ x e)

shop_refuses : (input : List ℕ) (x : Refusal) → GivenInTheShop input x → shop_verdict input ≡ refuse x
unfolding shop_verdict
shop_refuses input x (shop_SHORT h) = refuses _ _ (below_tells (length input) trailer_length) h
shop_refuses input x (shop_LENGTH h l) =
    goes_on _ _ (below_tells (length input) trailer_length) h ∙ refuses _ _ (above_tells (length input) most_input) l
shop_refuses input x (shop_before h l g) =
    goes_on _ _ (below_tells (length input) trailer_length) h ∙ goes_on _ _ (above_tells (length input) most_input) l
    ∙ to_flatten_refuses _ _ x g

pub shop_passes :
    (input : List ℕ) → trailer_length ≤ length input → length input ≤ most_input → Flattens (book_read input) (routine_read input)
    → shop_verdict input ≡ pass
unfolding shop_verdict
shop_passes input h l f =
    goes_on _ _ (below_tells (length input) trailer_length) h ∙ goes_on _ _ (above_tells (length input) most_input) l
    ∙ none_refuses (book_read input) (routine_read input) f

pub shop_given_exactly_when : (input : List ℕ) (x : Refusal) → (shop_verdict input ≡ refuse x) ↔ GivenInTheShop input x
shop_given_exactly_when input x = (shop_gives input x, shop_refuses input x)
