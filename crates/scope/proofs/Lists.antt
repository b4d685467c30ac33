-- What stands in a list at a place: nothing in the empty list, behind a member the rest; and lists by the rule of their members.
-- Each by the members of the list. Assumes nothing.
use Prim.Native.Nat.{ℕ, zero, suc, ◌+◌, ◌-◌, ◌<◌}
use native.Mathlib.Omega.{arith}
use mathlib.Core.Path.{◌≡◌, refl, sym, ◌∙◌, ap}
use mathlib.Core.List.{List, [], ◌∷◌, map, nil≢cons}
use lib.ListN.{length, get_or, take, drop, length-drop}
use lib.Seq.{drop-nil, drop-drop, drop-cons}
use Rattle.scope.specs.Words.{listed}

pub nothing_stands : {A B : Type 0} {x : A} {xs : List A} (i : ℕ) → drop i [] ≡ x ∷ xs → B
nothing_stands i e = absurd (nil≢cons (sym (drop-nil i) ∙ e))

pub stands_below : {A : Type 0} {x : A} {xs : List A} (ls : List A) (i : ℕ) → drop i ls ≡ x ∷ xs → i < length ls
stands_below {xs} ls i e =
    let h : suc (length xs) ≡ length ls - i = rw e at (length-drop i ls) in
    omega arith

pub drop_tail : {A : Type 0} {x : A} {xs : List A} (ls : List A) (i : ℕ) → drop i ls ≡ x ∷ xs → drop (suc i) ls ≡ xs
drop_tail ls i e =
    let z : suc i ≡ i + 1 = omega arith in
    rw z (sym (drop-drop 1 i ls) ∙ ap (drop 1) e)

module _ {A : Type 0} where
  pub length_listed : (f : ℕ → A) (i n : ℕ) → length (listed f i n) ≡ n
  unfolding listed
  length_listed f i zero = refl
  length_listed f i (suc n) = ap suc (length_listed f (suc i) n)

  pub listed_at : (f : ℕ → A) (i n j k : ℕ) (d : A) → j < n → k ≡ i + j → get_or (listed f i n) j d ≡ f k
  unfolding listed
  listed_at f i zero j k d h e = absurd (omega arith)
  listed_at f i (suc n) zero k d h e = ap f (omega arith)
  listed_at f i (suc n) (suc j) k d h e = listed_at f (suc i) n j k d (omega arith) (omega arith)

  pub listed_stands : (f : ℕ → A) (n j : ℕ) → j < n → drop j (listed f 0 n) ≡ f j ∷ drop (suc j) (listed f 0 n)
  listed_stands f n j h =
      drop-cons (listed f 0 n) j (f 0) (rw (length_listed f 0 n) h)
      ∙ ap (λ x. x ∷ drop (suc j) (listed f 0 n)) (listed_at f 0 n j j (f 0) h (omega arith))

  pub listed_member : (f : ℕ → A) (i n j k : ℕ) {x : A} {rest : List A} → drop j (listed f i n) ≡ x ∷ rest → k ≡ i + j
      → (j < n) × (x ≡ f k)
  unfolding listed
  listed_member f i zero j k e h = nothing_stands j e
  listed_member f i (suc n) zero k {x} e h =
      let z : f i ≡ x = cc in
      (omega arith, sym z ∙ ap f (omega arith))
  listed_member f i (suc n) (suc j) k e h =
      let m = listed_member f (suc i) n j k e (omega arith) in
      (omega (arith, m.0), m.1)

  -- a list whose members follow the rule is that list
  pub listed_is : (f : ℕ → A) (xs : List A) (i n : ℕ) → length xs ≡ n
      → ((j k : ℕ) (x : A) (rest : List A) → drop j xs ≡ x ∷ rest → k ≡ i + j → f k ≡ x) → listed f i n ≡ xs
  unfolding listed
  listed_is f [] i zero e h = refl
  listed_is f [] i (suc n) e h = absurd (omega arith)
  listed_is f (x ∷ xs) i zero e h = absurd (omega arith)
  listed_is f (x ∷ xs) i (suc n) e h =
      rw (h 0 i x xs refl (omega arith), listed_is f xs (suc i) n (omega arith) (λ j k y rest d g. h (suc j) k y rest d (omega arith)))

-- a list by the rule of another's members
pub listed_map : {A B : Type 0} (g : B → A) (f : ℕ → A) (h : ℕ → B) (i n : ℕ) → ((k : ℕ) → k < i + n → f k ≡ g (h k))
    → listed f i n ≡ map g (listed h i n)
unfolding listed
listed_map g f h i zero same = refl
listed_map g f h i (suc n) same = rw (same i (omega arith), listed_map g f h (suc i) n (λ k l. same k (omega arith)))

-- What is said of a list by joining what is said of its members: of the first i + 1 it is said by one more joining at the end.
module _ {A B : Type 0} (said : List B → A) (of_one : B → A) (join : A → A → A) (first_joined : (x : B) (xs : List B) → said (x ∷ xs) ≡ join (of_one x) (said xs))
    (none_before : (a : A) → join (said []) a ≡ a) (none_behind : (a : A) → join a (said []) ≡ a)
    (grouped_either_way : (a b c : A) → join a (join b c) ≡ join (join a b) c) where
  pub said_to_the_next : {y : B} {rest : List B} (xs : List B) (i : ℕ) → drop i xs ≡ y ∷ rest
      → said (take (suc i) xs) ≡ join (said (take i xs)) (of_one y)
  said_to_the_next [] i e = nothing_stands i e
  said_to_the_next {y} (x ∷ xs) zero e =
      let z : x ≡ y = cc in
      rw z (first_joined y [] ∙ none_behind (of_one y) ∙ sym (none_before (of_one y)))
  said_to_the_next {y} (x ∷ xs) (suc i) e =
      first_joined x (take (suc i) xs)
      ∙ ap (join (of_one x)) (said_to_the_next xs i e)
      ∙ grouped_either_way (of_one x) (said (take i xs)) (of_one y)
      ∙ ap (λ a. join a (of_one y)) (sym (first_joined x (take i xs)))
