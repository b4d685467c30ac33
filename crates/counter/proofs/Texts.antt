-- What is printed grows text by text: appending is associative, and lengths add up.
-- Where there is room for a text of two parts, there is room for each, one behind the other. Assumes nothing.
use native.Mathlib.Omega.{arith}
use mathlib.Core.Path.{◌≡◌, ap}
use mathlib.Core.List.{List, ◌++◌, append_assoc}
use Prim.Native.Nat.{ℕ, ◌-◌}
use lib.ListN.{length, length-append, take, drop, length-drop}
use lib.Seq.{take_all}
use Rattle.counter.specs.Printed.{Room}

pub ruleset texts = (append_assoc, length-append)

-- all from a place on
pub the_rest : (xs : List ℕ) (from : ℕ) → take (length xs - from) (drop from xs) ≡ drop from xs
the_rest xs from = take_all (length xs - from) (drop from xs) (omega (arith, length-drop from xs))

module _ (printed a b : List ℕ) {text : List ℕ} (parts : text ≡ a ++ b) (room : Room text printed) where
  pub room_for_the_first : Room a printed
  room_for_the_first = omega (arith, room, ap length parts, length-append a b)

  pub room_for_the_second : {printed' : List ℕ} → printed' ≡ printed ++ a → Room b printed'
  room_for_the_second first = omega (arith, room, ap length parts, length-append a b, ap length first, length-append printed a)

-- A text in other words.
module _ (printed : List ℕ) {text said : List ℕ} (same : text ≡ said) where
  pub room_there : Room text printed → Room said printed
  room_there room = rw same at room

  pub printed_there : {printed' : List ℕ} → printed' ≡ printed ++ said → printed' ≡ printed ++ text
  printed_there e = rw same e

-- A text of two parts.
pub record Parts (text a b : List ℕ) : Type 0 where
  pub joined : text ≡ a ++ b
