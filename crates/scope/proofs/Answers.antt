-- What each call answers: a refusal exactly when document 01 says, and then nothing is written; otherwise its values, and what it writes.
-- An answer goes by the verdict of the call's tests, and that is what "given exactly when" speaks of.
use Prim.Native.Nat.{ℕ, ◌<◌, ◌≤◌}
use mathlib.Core.Path.{◌≡◌, ap}
use mathlib.Core.Logic.Iff
use mathlib.Core.Logic.{◌↔◌, ◌≢◌}
use mathlib.Core.List.{List}
use lib.ListN.{length}
use Rattle.scope.specs.Refusals.{Refusal, Verdict, refuse, refused, accepted, answer_of, call_of}
use Rattle.scope.specs.Book.{routines, lines, count, fields_in, Taken, book_of, check_answer, read_answer}
use Rattle.scope.specs.Steps.{register_count, Registers}
use Rattle.scope.specs.Flattening.{flat_length, flat_program, flat_book, flat_book_bytes, at_the_front_of, flatten_call}
use Rattle.scope.specs.Running.{run_call, State, bench_call}
use Rattle.scope.specs.Quote.{quote, quote_answer}
use Rattle.scope.specs.Page.{registers_length, page_run_call}
use Rattle.scope.specs.Shop.{book_read, routine_read, trailer_length, most_input, print_run, print_refusal, shop_run, shop_prints_by, shop_prints}
use Rattle.scope.specs.Given.{Given}
use Rattle.scope.specs.GivenByCalls.{GivenReading, Flattens, GivenFlattening, GivenQuote, Quotes, GivenRunning, GivenBench, GivenInTheShop, refusing}
use Rattle.scope.proofs.Verdicts.{refused_exactly_when, refusal_writes_nothing, accepted_only_where_passed, accepted_where_passed, call_where_passed}
use Rattle.scope.proofs.GivenExactlyWhen.{given_exactly_when}
use Rattle.scope.proofs.GivenByCalls.{reading_passes, reading_given_exactly_when, flattening_passes, flattening_given_exactly_when, quotes_exactly_when, quote_given_exactly_when, running_with_registers, running_with_bytes, bench_given_exactly_when, shop_passes, shop_given_exactly_when}

answers_refused :
    {A G : Type 0} (v : Verdict) (values : A) (x : Refusal) → (v ≡ refuse x) ↔ G → (answer_of v values ≡ refused x) ↔ G
answers_refused v values x given = Iff.trans (refused_exactly_when v values x) given

call_refused :
    {A L G : Type 0} (v : Verdict) (values : A) (written lent : L) (x : Refusal) → (v ≡ refuse x) ↔ G
    → (call_of v values written lent ≡ refusing x lent) ↔ G
unfolding call_of
call_refused v values written lent x given =
    (λ e. given.0 ((refused_exactly_when v values x).0 (ap (λ c. c.answer) e)), λ g. refusal_writes_nothing values written lent (given.1 g))

-- ---- checking and reading

pub check_refused_exactly : (b : List ℕ) (x : Refusal) → (check_answer b ≡ refused x) ↔ Given b x
unfolding check_answer
check_refused_exactly b x = answers_refused _ _ x (given_exactly_when b x)

pub check_accepts : (b : List ℕ) → Taken b → check_answer b ≡ accepted (record { routine_count = routines b; line_count = lines b })
unfolding check_answer
check_accepts b t = accepted_where_passed _ t

pub read_refused_exactly : (b : List ℕ) (r j : ℕ) (x : Refusal) → (read_answer b r j ≡ refused x) ↔ GivenReading b r j x
unfolding read_answer
read_refused_exactly b r j x = answers_refused _ _ x (reading_given_exactly_when b r j x)

pub read_accepts : (b : List ℕ) (r j : ℕ) → Taken b → r < routines b → j < count b r → read_answer b r j ≡ accepted (fields_in b r j)
unfolding read_answer
read_accepts b r j t h l = accepted_where_passed _ (reading_passes b r j t h l)

-- ---- flattening and the quote

pub flatten_refused_exactly :
    (b : List ℕ) (k : ℕ) (out : List ℕ) (x : Refusal) → (flatten_call b k out ≡ refusing x out) ↔ GivenFlattening b k (length out) x
unfolding flatten_call
flatten_refused_exactly b k out x = call_refused _ _ _ out x (flattening_given_exactly_when b k (length out) x)

pub flatten_accepts :
    (b : List ℕ) (k : ℕ) (out : List ℕ) → Flattens b k → flat_book_bytes (flat_length (book_of b) k) ≤ length out
    → flatten_call b k out
    ≡ record { answer = accepted (flat_length (book_of b) k); left = at_the_front_of out (flat_book (flat_program (book_of b) k)) }
unfolding flatten_call
flatten_accepts b k out f room = call_where_passed _ _ _ (flattening_passes b k (length out) f room)

pub quote_refused_exactly : (b : List ℕ) (k : ℕ) (x : Refusal) → (quote_answer b k ≡ refused x) ↔ GivenQuote b k x
unfolding quote_answer
quote_refused_exactly b k x = answers_refused _ _ x (quote_given_exactly_when b k x)

pub quote_accepts : (b : List ℕ) (k : ℕ) → Quotes b k → quote_answer b k ≡ accepted (quote (book_of b) k)
unfolding quote_answer
quote_accepts b k w = accepted_where_passed _ ((quotes_exactly_when b k).1 w)

pub quote_accepts_only : (b : List ℕ) (k q : ℕ) → quote_answer b k ≡ accepted q → Quotes b k × (quote (book_of b) k ≡ q)
unfolding quote_answer
quote_accepts_only b k q e =
    let passed = accepted_only_where_passed _ e in
    ((quotes_exactly_when b k).0 passed.0, passed.1)

-- ---- running and the bench step; what they answer where they are not refused stands in `RunAnswers`

pub run_refused_exactly :
    (b : List ℕ) (start : ℕ) (rs : Registers) (budget : ℕ) (x : Refusal)
    → (run_call b start rs budget ≡ refusing x rs) ↔ GivenRunning b (length rs ≢ register_count) start x
unfolding run_call
run_refused_exactly b start rs budget x = call_refused _ _ _ rs x (running_with_registers b rs start x)

pub page_run_refused_exactly :
    (b : List ℕ) (start : ℕ) (bytes : List ℕ) (budget : ℕ) (x : Refusal)
    → (page_run_call b start bytes budget ≡ refusing x bytes) ↔ GivenRunning b (length bytes ≢ registers_length) start x
unfolding page_run_call
page_run_refused_exactly b start bytes budget x = call_refused _ _ _ bytes x (running_with_bytes b bytes start x)

pub bench_refused_exactly : (b : List ℕ) (s : State) (x : Refusal) → (bench_call b s ≡ refusing x s) ↔ GivenBench b s.line x
unfolding bench_call
bench_refused_exactly b s x = call_refused _ _ _ s x (bench_given_exactly_when b s.line x)

-- ---- the shop's program

pub shop_prints_a_refusal : (input : List ℕ) (x : Refusal) → GivenInTheShop input x → shop_prints input ≡ print_refusal x
unfolding shop_prints shop_prints_by
shop_prints_a_refusal input x g = rw ((shop_given_exactly_when input x).1 g)

pub shop_prints_a_run :
    (input : List ℕ) → trailer_length ≤ length input → length input ≤ most_input → Flattens (book_read input) (routine_read input)
    → shop_prints input ≡ print_run (shop_run input)
unfolding shop_prints shop_prints_by
shop_prints_a_run input h l f = rw (shop_passes input h l f)
