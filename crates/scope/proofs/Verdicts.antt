-- Tests and verdicts in plain words: what a test tells, what a row of tests comes to, and which of many is the first that is refused.
-- Each law is by the two answers of a test or the two verdicts, and `first` by the number of tests. Assumes nothing.
use Prim.Native.Nat.{ℕ, zero, suc, ◌<◌, ◌≤◌}
use native.Mathlib.Omega.{arith}
use mathlib.Core.Bool.{Bool, true, false, not, true≢false, false≢true}
use mathlib.Core.Path.{◌≡◌, refl, sym, ◌∙◌, ap, subst}
use mathlib.Core.Logic.{◌↔◌, ◌≢◌, ◌⊎◌, inl, inr, ⊎_elim}
use borrow.Author.Tests.{ltb-true, ltb-false, leb-true, leb-false, eqb-true, eqb-false, lt-ltb, le-ltb, le-leb, lt-leb, eq-eqb, ne_eqb}
use Rattle.scope.specs.Words.{◌is◌, ◌is_not◌, ◌above◌, ◌below◌, ◌not_below◌, if, ◌or◌, ◌and◌}
use Rattle.scope.specs.Refusals.{Refusal, Verdict, pass, refuse, ◌and_then◌, first, refused, accepted, answer_of, left_of, call_of}

-- ---- if

pub if_true : {A : Type 0} (t : Bool) (a b : A) → t ≡ true → if t a b ≡ a
unfolding if
if_true t a b e = rw e

pub if_false : {A : Type 0} (t : Bool) (a b : A) → t ≡ false → if t a b ≡ b
unfolding if
if_false t a b e = rw e

-- ---- what a test tells

-- The test is true exactly when P holds, and false exactly when Q holds.
pub record Tells (test : Bool) (P Q : Type 0) : Type 0 where
  pub when_true : (test ≡ true) ↔ P
  pub when_false : (test ≡ false) ↔ Q

pub one_holds : {t : Bool} {P Q : Type 0} → Tells t P Q → P ⊎ Q
one_holds {t = true} i = inl (i.when_true.0 refl)
one_holds {t = false} i = inr (i.when_false.0 refl)

pub not_both : {t : Bool} {P Q : Type 0} → Tells t P Q → P → Q → ⊥
not_both i p q = true≢false (sym (i.when_true.1 p) ∙ i.when_false.1 q)

pub else_holds : {t : Bool} {P Q : Type 0} → Tells t P Q → ¬ P → Q
else_holds i n = ⊎_elim (λ p. absurd (n p)) (λ q. q) (one_holds i)

told_true : {P Q : Type 0} → P → ¬ Q → Tells true P Q
told_true p n = record { when_true = (λ e. p, λ x. refl); when_false = (λ e. absurd (true≢false e), λ q. absurd (n q)) }

told_false : {P Q : Type 0} → ¬ P → Q → Tells false P Q
told_false n q = record { when_true = (λ e. absurd (false≢true e), λ p. absurd (n p)); when_false = (λ e. q, λ x. refl) }

-- the same test in other words
pub in_words : {t : Bool} {P Q P' Q' : Type 0} → Tells t P Q → (P → P') → (Q → Q') → (P' → Q' → ⊥) → Tells t P' Q'
in_words {t = true} i f g apart =
    let p = f (i.when_true.0 refl) in
    told_true p (apart p)
in_words {t = false} i f g apart =
    let q = g (i.when_false.0 refl) in
    told_false (λ p. apart p q) q

-- A test that tells a fault is false exactly when there is no such fault.
pub no_fault : {t : Bool} {P Q : Type 0} → Tells t P Q → Tells t P (¬ P)
no_fault i = in_words i (λ p. p) (λ q p. not_both i p q) (λ p n. n p)

pub above_tells : (m n : ℕ) → Tells (m above n) (n < m) (m ≤ n)
above_tells m n = record { when_true = (ltb-true n m, lt-ltb n m); when_false = (ltb-false n m, le-ltb n m) }

pub below_tells : (m n : ℕ) → Tells (m below n) (m < n) (n ≤ m)
below_tells m n = above_tells n m

pub not_below_tells : (m n : ℕ) → Tells (m not_below n) (n ≤ m) (m < n)
not_below_tells m n = record { when_true = (leb-true n m, le-leb n m); when_false = (leb-false n m, lt-leb n m) }

pub is_tells : (m n : ℕ) → Tells (m is n) (m ≡ n) (m ≢ n)
is_tells m n = record { when_true = (eqb-true m n, eq-eqb m n); when_false = (eqb-false m n, ne_eqb m n) }

pub not_tells : {t : Bool} {P Q : Type 0} → Tells t P Q → Tells (not t) Q P
not_tells {t = true} i =
    let p = i.when_true.0 refl in
    told_false (not_both i p) p
not_tells {t = false} i =
    let q = i.when_false.0 refl in
    told_true q (λ p. not_both i p q)

pub is_not_tells : (m n : ℕ) → Tells (m is_not n) (m ≢ n) (m ≡ n)
is_not_tells m n = not_tells (is_tells m n)

pub itself_tells : (t : Bool) → Tells t (t ≡ true) (t ≡ false)
itself_tells t = record { when_true = (λ e. e, λ e. e); when_false = (λ e. e, λ e. e) }

-- A test that is true exactly when P holds is false exactly when it does not.
pub exactly_tells : {t : Bool} {P : Type 0} → (t ≡ true) ↔ P → Tells t P (¬ P)
exactly_tells {t} i = in_words (itself_tells t) i.0 (λ e p. true≢false (sym (i.1 p) ∙ e)) (λ p n. n p)

pub never_tells : Tells false ⊥ (Unit {0})
never_tells = told_false (λ x. x) tt

-- a test that is made where another is true, and a third where it is false
pub if_tells : {s t u : Bool} {S S' T T' U U' : Type 0} → Tells s S S' → Tells t T T' → Tells u U U'
    → Tells (if s t u) ((S × T) ⊎ (S' × U)) ((S × T') ⊎ (S' × U'))
unfolding if
if_tells {s = true} i j k =
    let s = i.when_true.0 refl in
    in_words j (λ t. inl (s, t)) (λ t. inl (s, t))
    (⊎_elim (λ x. ⊎_elim (λ y. not_both j x.1 y.1) (λ y. not_both i s y.0)) (λ x. absurd (not_both i s x.0)))
if_tells {s = false} i j k =
    let s = i.when_false.0 refl in
    in_words k (λ u. inr (s, u)) (λ u. inr (s, u))
    (⊎_elim (λ x. absurd (not_both i x.0 s)) (λ x. ⊎_elim (λ y. not_both i y.0 s) (λ y. not_both k x.1 y.1)))

pub or_tells : {s t : Bool} {P P' Q Q' : Type 0} → Tells s P P' → Tells t Q Q' → Tells (s or t) (P ⊎ Q) (P' × Q')
unfolding if
or_tells {s = true} i j =
    let p = i.when_true.0 refl in
    told_true (inl p) (λ q. not_both i p q.0)
or_tells {s = false} i j =
    let p = i.when_false.0 refl in
    in_words j (λ q. inr q) (λ q. (p, q)) (λ x q. ⊎_elim (λ y. not_both i y p) (λ y. not_both j y q.1) x)

pub and_tells : {s t : Bool} {P P' Q Q' : Type 0} → Tells s P P' → Tells t Q Q' → Tells (s and t) (P × Q) (P' ⊎ Q')
unfolding if
and_tells {s = true} i j =
    let p = i.when_true.0 refl in
    in_words j (λ q. (p, q)) (λ q. inr q) (λ q x. ⊎_elim (λ y. not_both i p y) (λ y. not_both j q.1 y) x)
and_tells {s = false} i j =
    let p = i.when_false.0 refl in
    told_false (λ q. not_both i q.0 p) (inl p)

-- what holds of both ways of an `if`
pub either_way : {A : Type 0} {t : Bool} {P Q : Type 0} {a b : A} (C : A → Type 0) → Tells t P Q → (P → C a) → (Q → C b) → C (if t a b)
unfolding if
either_way {t = true} C i f g = f (i.when_true.0 refl)
either_way {t = false} C i f g = g (i.when_false.0 refl)

-- ---- tests in order

pub pass_is_no_refusal : {x : Refusal} → pass ≡ refuse x → ⊥
pass_is_no_refusal e =
    let y : ◌≡◌ {A = ℕ} 0 1 = cc in
    omega arith

accepted_is_not_refused : {A : Type 0} {values : A} {x : Refusal} → accepted values ≡ refused x → ⊥
accepted_is_not_refused e =
    let y : ◌≡◌ {A = ℕ} 0 1 = cc in
    omega arith

-- A test that finds its fault gives its refusal, ..
pub refuses : {t : Bool} {P Q : Type 0} (a b : Verdict) → Tells t P Q → P → if t a b ≡ a
refuses a b i p = if_true _ a b (i.when_true.1 p)

-- .. otherwise the next is made.
pub goes_on : {t : Bool} {P Q : Type 0} (a b : Verdict) → Tells t P Q → Q → if t a b ≡ b
goes_on a b i q = if_false _ a b (i.when_false.1 q)

-- So a refusal is that of the test, or the test found no fault and the refusal is one of those that follow.
pub which_refuses : {t : Bool} {P Q : Type 0} {y x : Refusal} {rest : Verdict} (C : Refusal → Type 0) → Tells t P Q
    → (P → C y) → (Q → rest ≡ refuse x → C x) → if t (refuse y) rest ≡ refuse x → C x
unfolding if
which_refuses {t = true} {y} {x} C i f g e =
    let same : y ≡ x = cc in
    subst C same (f (i.when_true.0 refl))
which_refuses {t = false} C i f g e = g (i.when_false.0 refl) e

-- Where nothing is refused, the test found no fault, and nothing that follows is refused.
pub finds_no_fault :
    {t : Bool} {P Q : Type 0} {rest : Verdict} (y : Refusal) → Tells t P Q → if t (refuse y) rest ≡ pass → Q × (rest ≡ pass)
unfolding if
finds_no_fault {t = true} y i e = absurd (pass_is_no_refusal (sym e))
finds_no_fault {t = false} y i e = (i.when_false.0 refl, e)

-- All tests of the first verdict come before those of the second.
pub then_goes_on : {u : Verdict} (v : Verdict) → u ≡ pass → u and_then v ≡ v
unfolding ◌and_then◌
then_goes_on v e = rw e

pub then_refuses : {u : Verdict} {x : Refusal} (v : Verdict) → u ≡ refuse x → u and_then v ≡ refuse x
unfolding ◌and_then◌
then_refuses v e = rw e

pub which_then_refuses : (u : Verdict) {v : Verdict} {x : Refusal} → u and_then v ≡ refuse x
    → (u ≡ refuse x) ⊎ ((u ≡ pass) × (v ≡ refuse x))
unfolding ◌and_then◌
which_then_refuses pass e = inr (refl, e)
which_then_refuses (refuse y) e = inl e

pub then_passes : (u : Verdict) {v : Verdict} → u and_then v ≡ pass → (u ≡ pass) × (v ≡ pass)
unfolding ◌and_then◌
then_passes pass e = (refl, e)
then_passes (refuse y) e = absurd (pass_is_no_refusal (sym e))

-- ---- the first refusal among many

-- One more passes.
pub one_more_passes : (t : ℕ → Verdict) (n : ℕ) → first t n ≡ pass → t n ≡ pass → first t (suc n) ≡ pass
unfolding first
one_more_passes t n e f = then_goes_on (t n) e ∙ f

each_passes : (t : ℕ → Verdict) (n : ℕ) → first t n ≡ pass → (k : ℕ) → k < n → t k ≡ pass
unfolding first
each_passes t zero e k h = absurd (omega arith)
each_passes t (suc n) e k h =
    let p = then_passes (first t n) e in
    ⊎_elim (λ (l : k < n). each_passes t n p.0 k l) (λ (l : n ≤ k).
    let same : k ≡ n = omega arith in
    ap t same ∙ p.1) (one_holds (below_tells k n))

all_pass : (t : ℕ → Verdict) (n : ℕ) → ((k : ℕ) → k < n → t k ≡ pass) → first t n ≡ pass
unfolding first
all_pass t zero f = refl
all_pass t (suc n) f = one_more_passes t n (all_pass t n (λ k h. f k (omega arith))) (f n (omega arith))

-- All of n pass exactly when each of them does.
pub first_passes : (t : ℕ → Verdict) (n : ℕ) → (first t n ≡ pass) ↔ ((k : ℕ) → k < n → t k ≡ pass)
first_passes t n = (each_passes t n, all_pass t n)

-- where the first refusal stands: all before it pass
pub record FirstRefusal (t : ℕ → Verdict) (n : ℕ) (x : Refusal) : Type 0 where
  pub at : ℕ
  pub within : at < n
  pub is_refused : t at ≡ refuse x
  pub all_before_pass : (k : ℕ) → k < at → t k ≡ pass

first_found : (t : ℕ → Verdict) (n : ℕ) {x : Refusal} → first t n ≡ refuse x → FirstRefusal t n x
unfolding first
first_found t zero e = absurd (pass_is_no_refusal e)
first_found t (suc n) e =
    ⊎_elim (λ f.
    let h = first_found t n f in
    record { at = h.at; within = omega (arith, h.within); is_refused = h.is_refused; all_before_pass = h.all_before_pass })
    (λ f. record { at = n; within = omega arith; is_refused = f.1; all_before_pass = each_passes t n f.0 })
    (which_then_refuses (first t n) e)

-- A refusal before which all pass is the first, however many follow.
pub first_hit : (t : ℕ → Verdict) (n k : ℕ) {x : Refusal} → k < n → first t k ≡ pass → t k ≡ refuse x → first t n ≡ refuse x
unfolding first
first_hit t zero k h f e = absurd (omega arith)
first_hit t (suc n) k h f e =
    ⊎_elim (λ (l : k < n). then_refuses (t n) (first_hit t n k l f e)) (λ (l : n ≤ k).
    let same : n ≡ k = omega arith in
    then_goes_on (t n) (ap (first t) same ∙ f) ∙ ap t same ∙ e) (one_holds (below_tells k n))

-- The lowest that is refused is the one named.
pub first_refuses : (t : ℕ → Verdict) (n : ℕ) (x : Refusal) → (first t n ≡ refuse x) ↔ FirstRefusal t n x
first_refuses t n x =
    (first_found t n, λ h. first_hit t n h.at h.within (all_pass t h.at h.all_before_pass) h.is_refused)

-- ---- what a call answers, and leaves in what it was lent

pub refused_exactly_when : {A : Type 0} (v : Verdict) (values : A) (x : Refusal) → (answer_of v values ≡ refused x) ↔ (v ≡ refuse x)
unfolding answer_of
refused_exactly_when pass values x = (λ e. absurd (accepted_is_not_refused e), λ e. absurd (pass_is_no_refusal e))
refused_exactly_when (refuse y) values x = (λ e. cc, λ e. cc)

pub accepted_only_where_passed : {A : Type 0} (v : Verdict) {values a : A} → answer_of v values ≡ accepted a → (v ≡ pass) × (values ≡ a)
unfolding answer_of
accepted_only_where_passed pass e = (refl, cc)
accepted_only_where_passed (refuse y) e = absurd (accepted_is_not_refused (sym e))

pub accepted_where_passed : {A : Type 0} {v : Verdict} (values : A) → v ≡ pass → answer_of v values ≡ accepted values
unfolding answer_of
accepted_where_passed values e = rw e

pub call_where_passed :
    {A L : Type 0} {v : Verdict} (values : A) (written lent : L) → v ≡ pass
    → call_of v values written lent ≡ record { answer = accepted values; left = written }
unfolding call_of answer_of left_of
call_where_passed values written lent e = rw e

-- Nothing is written and no step is counted.
pub refusal_writes_nothing :
    {A L : Type 0} {v : Verdict} {x : Refusal} (values : A) (written lent : L) → v ≡ refuse x
    → call_of v values written lent ≡ record { answer = refused x; left = lent }
unfolding call_of answer_of left_of
refusal_writes_nothing values written lent e = rw e
