-- The last 74 bytes: what is read from them is what document 01 reads from the trailer of the whole input.
-- As many bytes stand before them in both; eight bytes are read from the last down, and bytes below 256 make less than 256 to the power of
-- how many they are. Assumes nothing.
use mir.Syntax.{w8}
use mir.Val.{Fits}
use Prim.Native.Nat.{ℕ, zero, suc, ◌+◌, ◌-◌, ◌*◌, ◌^◌, ◌≤◌, ◌<◌}
use native.Mathlib.Omega.{arith}
use native.Mathlib.Nat.{pow-suc, pow-le-pow_right}
use mathlib.Core.Path.{◌≡◌, refl, sym, ◌∙◌, ap}
use mathlib.Core.List.{List, [], ◌∷◌, ◌++◌}
use lib.ListN.{length, length-append, get_or, take, drop, length-drop, drop_of_length-le}
use lib.Seq.{drop-drop, drop-cons, take-append_seam, drop-append_seam, get_or-drop}
use Rattle.std.proofs.Common.{lit<}
use Rattle.std.specs.Array.{IsWholeChunk}
use Rattle.std.specs.Int.{w64, from_le_bytes}
use Rattle.scope.specs.Book.{byte, Bytes, two_byte}
use Rattle.scope.specs.Steps.{Registers}
use Rattle.scope.specs.Page.{registers_of}
use Rattle.scope.specs.Shop.{trailer_length, book_read, trailer_read, routine_read, registers_read, low_byte_first, budget_read}
use Rattle.counter.proofs.Texts.{the_rest}

-- ---- eight bytes

module _ (bytes : List ℕ) (long : length bytes ≡ 8) where
  from_byte : (i : ℕ) → i < 8 → low_byte_first (drop i bytes) ≡ get_or bytes i 0 + 256 * low_byte_first (drop (suc i) bytes)
  unfolding low_byte_first
  from_byte i h = rw (drop-cons bytes i 0 (omega (arith, long, h))) refl

  behind_the_last : low_byte_first (drop 8 bytes) ≡ 0
  unfolding low_byte_first
  behind_the_last = rw (drop_of_length-le bytes {i = 8} (omega (arith, long))) refl

  -- as std says it
  low_byte_first_said : from_le_bytes w64 bytes ≡ low_byte_first bytes
  low_byte_first_said =
      omega (
        arith,
        from_byte 0 (lit< tt),
        from_byte 1 (lit< tt),
        from_byte 2 (lit< tt),
        from_byte 3 (lit< tt),
        from_byte 4 (lit< tt),
        from_byte 5 (lit< tt),
        from_byte 6 (lit< tt),
        from_byte 7 (lit< tt),
        behind_the_last,
      )

-- ---- places

-- the last 74 bytes of a book and its trailer, and of the trailer alone
pub trailer_last : (book trailer : List ℕ) → length trailer ≡ trailer_length → trailer_read (book ++ trailer) ≡ trailer
unfolding trailer_read
trailer_last book trailer many =
    let place : length (book ++ trailer) - 74 ≡ length book = omega (arith, length-append book trailer, many) in
    rw place (drop-append_seam book trailer)

pub book_first : (book trailer : List ℕ) → length trailer ≡ trailer_length → book_read (book ++ trailer) ≡ book
unfolding book_read
book_first book trailer many =
    let place : length (book ++ trailer) - 74 ≡ length book = omega (arith, length-append book trailer, many) in
    rw place (take-append_seam book trailer)

module _ (trailer : List ℕ) (many : length trailer ≡ trailer_length) where
  pub routine_of_the_trailer : {r : ℕ} → r ≡ two_byte trailer 0 → r ≡ routine_read trailer
  unfolding routine_read
  routine_of_the_trailer e = rw (trailer_last [] trailer many) e

  pub registers_of_the_trailer : {rs : Registers} → rs ≡ registers_of (take 64 (drop 2 trailer)) → rs ≡ registers_read trailer
  unfolding registers_read
  registers_of_the_trailer e = rw (trailer_last [] trailer many) e

  pub budget_of_the_trailer : {n : ℕ} {last : List ℕ} → IsWholeChunk (drop (length trailer - 8) trailer) last 8 → n ≡ from_le_bytes w64 last
      → n ≡ budget_read trailer
  unfolding budget_read
  budget_of_the_trailer chunk e =
      let place : length trailer - 8 ≡ 66 = omega (arith, many) in
      rw (trailer_last [] trailer many) (e ∙ rw (chunk.same, place) (low_byte_first_said _ (rw place at chunk.long)))

-- as they stand in the whole input
module _ (input : List ℕ) where
  pub routine_there : (r : ℕ) → r ≡ two_byte (take (length input - (length input - 74)) (drop (length input - 74) input)) 0 → r ≡ routine_read input
  unfolding routine_read trailer_read
  routine_there r e = e ∙ ap (λ xs. two_byte xs 0) (the_rest input (length input - 74))

  pub registers_there : (rs : Registers) → rs ≡ registers_of (take (length input - 74 + 2 + 64 - (length input - 74 + 2)) (drop (length input - 74 + 2) input))
      → rs ≡ registers_read input
  unfolding registers_read trailer_read
  registers_there rs e =
      let many : length input - 74 + 2 + 64 - (length input - 74 + 2) ≡ 64 = omega arith in
      e ∙ rw (many, drop-drop 2 (length input - 74) input) refl

  pub budget_there : (n : ℕ) → trailer_length ≤ length input → n ≡ low_byte_first (take (length input - (length input - 8)) (drop (length input - 8) input))
      → n ≡ budget_read input
  unfolding budget_read trailer_read
  budget_there n h e =
      let place : length input - 74 + (2 + 64) ≡ length input - 8 = omega arith in
      e ∙ ap low_byte_first (the_rest input (length input - 8) ∙ sym (drop-drop (2 + 64) (length input - 74) input ∙ ap (λ k. drop k input) place))

-- ---- bytes

-- as is known of a slice of bytes
pub slice_has_bytes : (xs : List ℕ) → ((i : ℕ) → Fits w8 (get_or xs i 0)) → Bytes xs
unfolding Bytes byte
slice_has_bytes xs known i h = (known i).fits

-- behind the last there stands 0
pub byte_below_256 : (xs : List ℕ) → Bytes xs → (i : ℕ) → byte xs i < 256
unfolding Bytes byte
byte_below_256 [] known i = omega arith
byte_below_256 (x ∷ xs) known zero = known 0 (omega arith)
byte_below_256 (x ∷ xs) known (suc i) = byte_below_256 xs (λ k h. known (suc k) (omega arith)) i

pub bytes_behind : (n : ℕ) (xs : List ℕ) → Bytes xs → Bytes (drop n xs)
unfolding Bytes byte
bytes_behind n xs known i h = rw (get_or-drop n xs i 0) (byte_below_256 xs known (n + i))

-- ---- how much they make

-- Bytes below 256 make a number below 256 to the power of how many they are.
pub below_a_power : (xs : List ℕ) → Bytes xs → low_byte_first xs < 256 ^ length xs
unfolding low_byte_first Bytes byte
below_a_power [] known = omega arith
below_a_power (x ∷ xs) known =
    omega (arith, known 0 (omega arith), below_a_power xs (λ i h. known (suc i) (omega arith)), pow-suc 256 (length xs))

-- ---- read from the last down

-- The bytes from i on are read.
pub record ReadFrom (bytes : List ℕ) (n i : ℕ) : Type 0 where
  pub upto : i ≤ length bytes
  pub says : n ≡ low_byte_first (drop i bytes)

module _ (bytes : List ℕ) (long : length bytes ≡ 8) where
  pub none_read : ReadFrom bytes 0 8
  unfolding low_byte_first
  none_read = record { upto = omega arith; says = rw (drop_of_length-le bytes {i = 8} (omega arith)) refl }

  module _ (n i : ℕ) (r : ReadFrom bytes n i) where
    module _ (h : 0 < i) where
      pub one_more_read : ReadFrom bytes (get_or bytes (i - 1) 0 + 256 * n) (i - 1)
      unfolding low_byte_first
      one_more_read =
          let next : suc (i - 1) ≡ i = omega arith in
          let there = drop-cons bytes (i - 1) 0 (omega (arith, r.upto)) ∙ ap (λ k. get_or bytes (i - 1) 0 ∷ drop k bytes) next in
          record { upto = omega (arith, r.upto); says = rw (there, r.says) refl }

      module _ (known : Bytes bytes) where
        few_yet : n < 256 ^ 7
        few_yet =
            let most = pow-le-pow_right {n = 256} (omega arith) {i = length (drop i bytes)} {j = 7} (omega (arith, length-drop i bytes, long)) in
            omega (arith, r.says, below_a_power (drop i bytes) (bytes_behind i bytes known), most)

        pub byte_fits : Fits w64 (get_or bytes (i - 1) 0)
        unfolding byte
        byte_fits = record { fits = omega (arith, byte_below_256 bytes known (i - 1)) }

        pub shifted_fits : Fits w64 (256 * n)
        shifted_fits = record { fits = omega (arith, few_yet) }

        pub number_fits : Fits w64 (get_or bytes (i - 1) 0 + 256 * n)
        unfolding byte
        number_fits = record { fits = omega (arith, few_yet, byte_below_256 bytes known (i - 1)) }

    pub all_read : i ≤ 0 → n ≡ low_byte_first bytes
    all_read h =
        let none : i ≡ 0 = omega arith in
        rw none at r.says
