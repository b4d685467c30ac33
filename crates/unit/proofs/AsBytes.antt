-- 32 registers as 64 bytes: read one after another they are the list that the bytes say, written one after another its bytes.
-- Each loop keeps what holds of the registers before j. Assumes nothing.
use Prim.Native.Nat.{ℕ, ◌+◌, ◌*◌, ◌<◌, ◌≤◌, ◌/◌, ◌%◌}
use native.Mathlib.Omega.{arith}
use native.Mathlib.Decide.{ℕ_discrete}
use mathlib.Core.Path.{◌≡◌, refl, sym, ◌∙◌, ap}
use mathlib.Core.List.{List, [], ◌∷◌, ◌++◌}
use lib.ListN.{length, take, drop, get_or, set, length-set, length-append, length-drop}
use lib.Seq.{length-take-le, take_all, drop-cons, get_or-set_same, get_or-set_other}
use Rattle.scope.specs.Book.{two_byte, two_bytes, two_bytes_each}
use Rattle.scope.specs.Steps.{register_count, Registers}
use Rattle.scope.specs.Page.{registers_length, registers_of}
use Rattle.scope.proofs.Lists.{listed_is, stands_below}
use Rattle.book.specs.Written.{with_bytes}
use Rattle.book.proofs.Written.{nothing_written, all_written, piece_written}

-- ---- reading

-- The first j are read.
pub record ReadTo (bytes : List ℕ) (j : ℕ) (regs : Registers) : Type 0 where
  pub long : length regs ≡ register_count
  pub upto : j ≤ register_count
  pub front : (k : ℕ) → k < j → get_or regs k 0 ≡ two_byte bytes (2 * k)

pub none_read : (bytes : List ℕ) (regs : Registers) → length regs ≡ register_count → ReadTo bytes 0 regs
none_read bytes regs long = record { long = long; upto = omega arith; front = λ k h. absurd (omega arith) }

pub one_more_read : (bytes : List ℕ) (j v : ℕ) (regs : Registers) → ReadTo bytes j regs → j < register_count → v ≡ two_byte bytes (2 * j)
    → ReadTo bytes (j + 1) (set regs j v)
one_more_read bytes j v regs r h e =
    record { long = length-set regs j v ∙ r.long; upto = omega arith; front = λ k l. at k l (ℕ_discrete k j) }
  where
    at : (k : ℕ) → k < j + 1 → Dec (k ≡ j) → get_or (set regs j v) k 0 ≡ two_byte bytes (2 * k)
    at k l (yes s) = rw s (get_or-set_same regs j v 0 (omega (arith, r.long)) ∙ e)
    at k l (no n) = get_or-set_other regs j k v 0 n ∙ r.front k (omega (arith, n))

pub all_read : (bytes : List ℕ) (j : ℕ) (regs : Registers) → ReadTo bytes j regs → register_count ≤ j → regs ≡ registers_of bytes
unfolding registers_of
all_read bytes j regs r h =
    sym (listed_is _ regs 0 register_count r.long λ i k x rest s e.
    let below = stands_below regs i s in
    let there = drop-cons regs i 0 below in
    let same : get_or regs i 0 ≡ x = cc in
    let here : k ≡ i = omega arith in
    rw here (sym (r.front i (omega (arith, below, r.long))) ∙ same))

-- ---- writing

two_for_each : (rs : Registers) → length (two_bytes_each rs) ≡ 2 * length rs
unfolding two_bytes_each two_bytes
two_for_each [] = refl
two_for_each (r ∷ rs) = omega (arith, two_for_each rs)

-- The first j are written.
pub record WrittenTo (regs : Registers) (bytes₀ : List ℕ) (j : ℕ) (bytes : List ℕ) : Type 0 where
  pub upto : j ≤ register_count
  pub front : bytes ≡ with_bytes bytes₀ 0 (two_bytes_each (take j regs))

pub none_written : (regs : Registers) (bytes₀ : List ℕ) → WrittenTo regs bytes₀ 0 bytes₀
unfolding two_bytes_each
none_written regs bytes₀ = record { upto = omega arith; front = nothing_written bytes₀ 0 }

module _ (regs : Registers) (many : length regs ≡ register_count) (bytes₀ : List ℕ) (given : length bytes₀ ≡ registers_length) (j : ℕ) (bytes : List ℕ)
    (w : WrittenTo regs bytes₀ j bytes) where
  pub one_more_written : (two bytes' : List ℕ) → j < length regs → two ≡ get_or regs j 0 % 256 ∷ get_or regs j 0 / 256 % 256 ∷ []
      → bytes' ≡ with_bytes bytes (2 * j) two → WrittenTo regs bytes₀ (j + 1) bytes'
  unfolding two_bytes_each two_bytes
  one_more_written two bytes' h same put =
      let size = length-take-le j regs (omega (arith, h)) in
      record {
        upto = omega (arith, h, many);
        front =
            piece_written two_bytes two_bytes_each refl (λ x xs. refl) j regs (drop-cons regs j 0 h) bytes₀ bytes bytes' 0 (2 * j)
            w.front (omega (arith, two_for_each (take j regs), size)) (omega (arith, h, many, given)) (put ∙ ap (with_bytes bytes (2 * j)) same);
      }

  -- They stay 64 bytes.
  pub written_long : length bytes ≡ registers_length
  unfolding with_bytes
  written_long =
      let front = two_bytes_each (take j regs) in
      let size : length front ≤ length bytes₀ = omega (arith, two_for_each (take j regs), length-take-le j regs (omega (arith, w.upto, many)), w.upto, given) in
      let same : 0 + length front ≡ length front = omega arith in
      let left : bytes ≡ front ++ drop (length front) bytes₀ = w.front ∙ ap (λ n. front ++ drop n bytes₀) same in
      omega (arith, ap length left, length-append front (drop (length front) bytes₀), length-drop (length front) bytes₀, size, given)

  pub all_are_written : length regs ≤ j → bytes ≡ two_bytes_each regs
  all_are_written h =
      let whole : take j regs ≡ regs = take_all j regs (omega (arith, h)) in
      w.front ∙ rw whole (all_written bytes₀ (two_bytes_each regs) (omega (arith, two_for_each regs)))
