-- Two machines whose places correspond, and that do the same next wherever they do, end every run alike.
-- By the budget: a step leads from places that correspond to places that correspond.
use Prim.Native.Nat.{ℕ, zero, suc}
use mathlib.Core.Bool.{Bool, true, false}
use mathlib.Core.Path.{◌≡◌, refl}
use Rattle.scope.specs.Words.{◌is◌, if}
use Rattle.scope.specs.Steps.{top, Registers, value, with_value, Next, at_the_end, before_full, goes_to, adds_one, takes_one_from, takes_one_off, Outcome, FINISHED, OUT_OF_STEPS, FULL, End, end, run_on, run_from}

module _ {P Q : Type 0} (Corresponds : P → Q → Type 0) where
  -- They do the same next.
  pub data SameNext : Next P → Next Q → Type 0 where
    both_at_the_end : SameNext at_the_end at_the_end
    both_before_full : {r : ℕ} → SameNext (before_full r) (before_full r)
    both_go : {p : P} {q : Q} {rs : Registers} → Corresponds p q → SameNext (goes_to p rs) (goes_to q rs)

  pub both_add_one : {p : P} {q : Q} (r : ℕ) (rs : Registers) → Corresponds p q → SameNext (adds_one r rs p) (adds_one r rs q)
  unfolding adds_one if
  both_add_one {p} {q} r rs c = by_test (value rs r is top)
    where
      ss : Registers
      ss = with_value rs r (suc (value rs r))

      by_test : (full : Bool) → SameNext (if full (before_full r) (goes_to p ss)) (if full (before_full r) (goes_to q ss))
      by_test true = both_before_full
      by_test false = both_go c

  pub both_take_one_off :
      {p p' : P} {q q' : Q} (r : ℕ) (rs : Registers) → Corresponds p q → Corresponds p' q'
      → SameNext (takes_one_off r rs p p') (takes_one_off r rs q q')
  unfolding takes_one_off takes_one_from
  both_take_one_off {p} {p'} {q} {q'} r rs on target = by_value (value rs r)
    where
      by_value : (v : ℕ) → SameNext (takes_one_from v r rs p p') (takes_one_from v r rs q q')
      by_value zero = both_go target
      by_value (suc v) = both_go on

  -- They ended alike.
  pub record SameRun (e : End P) (f : End Q) : Type 0 where
    pub same_outcome : e.outcome ≡ f.outcome
    pub same_steps : e.steps ≡ f.steps
    pub same_registers : e.registers ≡ f.registers
    pub places_correspond : Corresponds e.place f.place

  same_here : (o : Outcome) (s : ℕ) (p : P) (q : Q) (rs : Registers) → Corresponds p q → SameRun (end o s p rs) (end o s q rs)
  same_here o s p q rs c = record { same_outcome = refl; same_steps = refl; same_registers = refl; places_correspond = c }

module _
    {P Q : Type 0} (Corresponds : P → Q → Type 0) (next : P → Registers → Next P) (next' : Q → Registers → Next Q)
    (same_next : (p : P) (q : Q) (rs : Registers) → Corresponds p q → SameNext Corresponds (next p rs) (next' q rs))
  where
    same_on :
        (left s : ℕ) (p : P) (q : Q) (rs : Registers) {n : Next P} {m : Next Q} → Corresponds p q → SameNext Corresponds n m
        → SameRun Corresponds (run_on next left s p rs n) (run_on next' left s q rs m)
    unfolding run_on
    same_on zero s p q rs c both_at_the_end = same_here Corresponds FINISHED s p q rs c
    same_on zero s p q rs c both_before_full = same_here Corresponds OUT_OF_STEPS s p q rs c
    same_on zero s p q rs c (both_go d) = same_here Corresponds OUT_OF_STEPS s p q rs c
    same_on (suc left) s p q rs c both_at_the_end = same_here Corresponds FINISHED s p q rs c
    same_on (suc left) s p q rs c (both_before_full {r = r}) = same_here Corresponds (FULL r) s p q rs c
    same_on (suc left) s p q rs c (both_go {p = p'} {q = q'} {rs = rs'} d) =
        same_on left (suc s) p' q' rs' d (same_next p' q' rs' d)

    pub lockstep :
        (budget : ℕ) (p : P) (q : Q) (rs : Registers) → Corresponds p q
        → SameRun Corresponds (run_from next budget p rs) (run_from next' budget q rs)
    unfolding run_from
    lockstep budget p q rs c = same_on budget 0 p q rs c (same_next p q rs c)
