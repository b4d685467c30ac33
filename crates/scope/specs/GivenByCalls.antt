-- Document 01, "Numbers of refusal": 11 to 19, each "Given exactly when", for the calls that give them, in the order of each call.
-- A call first asks that the book be taken; what is given for a book that is not stands in `Given`. Assumes nothing.
use Rattle.std.specs.Prelude.{ℕ, ◌<◌, ◌≤◌, List, length}
use Rattle.scope.specs.Refusals.{SHORT, LENGTH, DEPTH, NO_ROUTINE, TOO_LONG, NO_ROOM, NOT_FLAT, REGISTERS, LINE, NOT_STEADY, QUOTE, Refusal, refusal, refused, Call}
use Rattle.scope.specs.Book.{routines, lines, count, Taken, book_of}
use Rattle.scope.specs.Flattening.{flat_length, flat_book_bytes, most_flat_lines}
use Rattle.scope.specs.Quote.{quote, most_quote}
use Rattle.scope.specs.Shop.{trailer_length, book_read, routine_read, most_input}
use Rattle.scope.specs.Depth.{OpensTooMany}
use Rattle.scope.specs.SteadyWords.{SteadyRoutine}
use Rattle.scope.specs.Given.{Given}

-- Then: reading 12, 17; ..
pub data GivenReading (b : List ℕ) (r j : ℕ) : Refusal → Type 0 where
  reading_the_book : {x : Refusal} → Given b x → GivenReading b r j x
  -- | 12 | NO ROUTINE | asked routine not below R |
  reading_NO_ROUTINE : Taken b → routines b ≤ r → GivenReading b r j (refusal NO_ROUTINE 0)
  -- | 17 | LINE | .. line to read not below its routine's count |
  reading_LINE : Taken b → r < routines b → count b r ≤ j → GivenReading b r j (refusal LINE 0)

-- .. flattening 12, 11, 13, ..; quote 12, 11, 13, ..
pub data GivenToFlatten (b : List ℕ) (k : ℕ) : Refusal → Type 0 where
  to_flatten_the_book : {x : Refusal} → Given b x → GivenToFlatten b k x
  to_flatten_NO_ROUTINE : Taken b → routines b ≤ k → GivenToFlatten b k (refusal NO_ROUTINE 0)
  -- | 11 | DEPTH | more than 32 routines open inside one another |
  to_flatten_DEPTH : Taken b → k < routines b → OpensTooMany (book_of b) k → GivenToFlatten b k (refusal DEPTH 0)
  -- | 13 | TOO LONG | flat length above 4,096 |
  to_flatten_TOO_LONG : Taken b → k < routines b → ¬ OpensTooMany (book_of b) k → most_flat_lines < flat_length (book_of b) k
      → GivenToFlatten b k (refusal TOO_LONG 0)

-- Routine k of the book flattens: none of these is given.
pub record Flattens (b : List ℕ) (k : ℕ) : Type 0 where
  pub taken : Taken b
  pub a_routine : k < routines b
  pub not_too_deep : ¬ OpensTooMany (book_of b) k
  pub not_too_long : flat_length (book_of b) k ≤ most_flat_lines

-- .. flattening .. 14; ..
pub data GivenFlattening (b : List ℕ) (k room : ℕ) : Refusal → Type 0 where
  flattening_before : {x : Refusal} → GivenToFlatten b k x → GivenFlattening b k room x
  -- | 14 | NO ROOM | output shorter than 16 + 4n bytes |
  flattening_NO_ROOM : Flattens b k → room < flat_book_bytes (flat_length (book_of b) k) → GivenFlattening b k room (refusal NO_ROOM 0)

-- .. quote .. 18, 19; ..
pub data GivenQuote (b : List ℕ) (k : ℕ) : Refusal → Type 0 where
  quote_before : {x : Refusal} → GivenToFlatten b k x → GivenQuote b k x
  -- | 18 | NOT STEADY | the routine is not steady |
  quote_NOT_STEADY : Flattens b k → ¬ SteadyRoutine (book_of b) k → GivenQuote b k (refusal NOT_STEADY 0)
  -- | 19 | QUOTE | quote above 2^64-1 |
  quote_QUOTE : Flattens b k → SteadyRoutine (book_of b) k → most_quote < quote (book_of b) k → GivenQuote b k (refusal QUOTE 0)

-- Routine k of the book has a quote: none of these is given.
pub record Quotes (b : List ℕ) (k : ℕ) : Type 0 where
  pub flattens : Flattens b k
  pub a_steady_one : SteadyRoutine (book_of b) k
  pub not_too_high : quote (book_of b) k ≤ most_quote

-- .. running 15, 16, 17; .. (What it means that the lent registers are not 32 depends on how they are lent.)
pub data GivenRunning (b : List ℕ) (Not32 : Type 0) (start : ℕ) : Refusal → Type 0 where
  running_the_book : {x : Refusal} → Given b x → GivenRunning b Not32 start x
  -- | 15 | NOT FLAT | more than one routine |
  running_NOT_FLAT : Taken b → 1 < routines b → GivenRunning b Not32 start (refusal NOT_FLAT 0)
  -- | 16 | REGISTERS | lent registers are not 32 |
  running_REGISTERS : Taken b → routines b ≤ 1 → Not32 → GivenRunning b Not32 start (refusal REGISTERS 0)
  -- | 17 | LINE | start line .. above n .. |
  running_LINE : Taken b → routines b ≤ 1 → ¬ Not32 → lines b < start → GivenRunning b Not32 start (refusal LINE 0)

-- .. bench step 15, 17.
pub data GivenBench (b : List ℕ) (line : ℕ) : Refusal → Type 0 where
  bench_the_book : {x : Refusal} → Given b x → GivenBench b line x
  bench_NOT_FLAT : Taken b → 1 < routines b → GivenBench b line (refusal NOT_FLAT 0)
  -- | 17 | LINE | .. state's line above n .. |
  bench_LINE : Taken b → routines b ≤ 1 → lines b < line → GivenBench b line (refusal LINE 0)

-- Nothing is written and no step is counted: a call that is refused answers the refusal, and leaves what it was lent as it was.
abbrev pub refusing : {A L : Type 0} → Refusal → (lent : L) → Call A L
refusing x lent = record { answer = refused x; left = lent }

-- The shop's program. Under 74 bytes prints "REFUSED 1 0"; over 16,598 prints "REFUSED 5 0"; both before any other check. (14 to 17 do not
-- come: it makes room for the flat book and runs it from line 0 with 32 registers.)
pub data GivenInTheShop (input : List ℕ) : Refusal → Type 0 where
  shop_SHORT : length input < trailer_length → GivenInTheShop input (refusal SHORT 0)
  shop_LENGTH : trailer_length ≤ length input → most_input < length input → GivenInTheShop input (refusal LENGTH 0)
  shop_before :
      {x : Refusal} → trailer_length ≤ length input → length input ≤ most_input → GivenToFlatten (book_read input) (routine_read input) x
      → GivenInTheShop input x
