-- 11 DEPTH is never given, by no call: no book earns it.
-- A taken book has at most 32 routines, and of those that are open inside one another each has a lower number than the one around it.
use Prim.Native.Nat.{ℕ, ◌≤◌}
use native.Mathlib.Omega.{arith}
use mathlib.Core.Path.{refl}
use mathlib.Core.Logic.{◌≢◌}
use mathlib.Core.List.{List}
use Rattle.scope.specs.Refusals.{DEPTH, number, Refusal, refusal, refuse}
use Rattle.scope.specs.Flattening.{flatten_verdict}
use Rattle.scope.specs.Quote.{quote_verdict}
use Rattle.scope.specs.Shop.{shop_verdict}
use Rattle.scope.specs.Given.{Given, gives_SHORT, gives_FORMAT, gives_COUNTS, gives_OFFSETS, gives_LENGTH, gives_ROUTINE, gives_ROUTINE_last, gives_KIND, gives_REGISTER, gives_TARGET, gives_CALLEE}
use Rattle.scope.specs.GivenByCalls.{GivenToFlatten, to_flatten_the_book, to_flatten_NO_ROUTINE, to_flatten_DEPTH, to_flatten_TOO_LONG, GivenFlattening, flattening_before, flattening_NO_ROOM, GivenQuote, quote_before, quote_NOT_STEADY, quote_QUOTE, GivenInTheShop, shop_SHORT, shop_LENGTH, shop_before}
use Rattle.scope.proofs.Depth.{no_more_than_32_open}
use Rattle.scope.proofs.GivenByCalls.{flattening_given_exactly_when, quote_given_exactly_when, shop_given_exactly_when}

-- What is given for a book is one of 1 to 10.
of_the_book : {b : List ℕ} {x : Refusal} → Given b x → number x.name ≤ 10
unfolding number
of_the_book (gives_SHORT w) = omega arith
of_the_book (gives_FORMAT p w) = omega arith
of_the_book (gives_COUNTS p w) = omega arith
of_the_book (gives_OFFSETS p w) = omega arith
of_the_book (gives_LENGTH p w) = omega arith
of_the_book (gives_ROUTINE r p h w) = omega arith
of_the_book (gives_ROUTINE_last p w) = omega arith
of_the_book (gives_KIND r j p w) = omega arith
of_the_book (gives_REGISTER r j p w) = omega arith
of_the_book (gives_TARGET r j p w) = omega arith
of_the_book (gives_CALLEE r j p w) = omega arith

not_to_flatten : {b : List ℕ} {k : ℕ} {x : Refusal} → GivenToFlatten b k x → number x.name ≢ 11
unfolding number
not_to_flatten (to_flatten_the_book g) e = omega (arith, of_the_book g, e)
not_to_flatten (to_flatten_NO_ROUTINE t h) e = omega (arith, e)
not_to_flatten {b} (to_flatten_DEPTH t h d) e = omega (arith, no_more_than_32_open b t h d.opened, d.too_many)
not_to_flatten (to_flatten_TOO_LONG t h d l) e = omega (arith, e)

not_flattening : {b : List ℕ} {k room : ℕ} {x : Refusal} → GivenFlattening b k room x → number x.name ≢ 11
unfolding number
not_flattening (flattening_before g) e = not_to_flatten g e
not_flattening (flattening_NO_ROOM f h) e = omega (arith, e)

not_for_a_quote : {b : List ℕ} {k : ℕ} {x : Refusal} → GivenQuote b k x → number x.name ≢ 11
unfolding number
not_for_a_quote (quote_before g) e = not_to_flatten g e
not_for_a_quote (quote_NOT_STEADY f s) e = omega (arith, e)
not_for_a_quote (quote_QUOTE f s q) e = omega (arith, e)

not_in_the_shop : {input : List ℕ} {x : Refusal} → GivenInTheShop input x → number x.name ≢ 11
unfolding number
not_in_the_shop (shop_SHORT h) e = omega (arith, e)
not_in_the_shop (shop_LENGTH h l) e = omega (arith, e)
not_in_the_shop (shop_before h l g) e = not_to_flatten g e

pub flattening_never_gives_DEPTH : (b : List ℕ) (k room place : ℕ) → flatten_verdict b k room ≢ refuse (refusal DEPTH place)
unfolding number
flattening_never_gives_DEPTH b k room place e = not_flattening ((flattening_given_exactly_when b k room (refusal DEPTH place)).0 e) refl

pub quote_never_gives_DEPTH : (b : List ℕ) (k place : ℕ) → quote_verdict b k ≢ refuse (refusal DEPTH place)
unfolding number
quote_never_gives_DEPTH b k place e = not_for_a_quote ((quote_given_exactly_when b k (refusal DEPTH place)).0 e) refl

pub shop_never_gives_DEPTH : (input : List ℕ) (place : ℕ) → shop_verdict input ≢ refuse (refusal DEPTH place)
unfolding number
shop_never_gives_DEPTH input place e = not_in_the_shop ((shop_given_exactly_when input (refusal DEPTH place)).0 e) refl
