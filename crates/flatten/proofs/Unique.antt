-- Any two answers that satisfy a public function's promise are equal, and so are the last contents of what it was lent to write in.
-- Said of what a caller learns from the contract (`Learnt`): both tell the same, and what tells the same is the same. Assumes nothing.
use Rattle.std.specs.Prelude.{Result}
use mathlib.Core.Path.{◌≡◌, sym, ◌∙◌, ap}
use Prim.Native.Nat.{ℕ}
use Rattle.book.specs.declared.refusals.Refusal.{Refusal}
use Rattle.flatten.proofs.lengths.next_start.Reads as next_start
use Rattle.flatten.proofs.flattens.Reads as flattens
use Rattle.flatten.proofs.flatten.Reads as flatten
use Rattle.book.proofs.Told.{numbers_apart}

pub flatten_once : (κs : _) (a : _) (r r' : _) (s s' : _) → flatten.Learnt κs a r s → flatten.Learnt κs a r' s'
    → (r ≡ r') × (s.1.1.0.now ≡ s'.1.1.0.now)
flatten_once κs a r r' s s' p q =
    let same = p ∙ sym q in
    (numbers_apart r r' (ap (λ c. c.answer) same), ap (λ c. c.left) same)

pub flattens_once : {r r' : Result ℕ Refusal} (κs : _) (a : _) (s s' : _) → flattens.Learnt κs a r s → flattens.Learnt κs a r' s' → r ≡ r'
flattens_once κs a s s' p q = numbers_apart _ _ (p ∙ sym q)

pub next_start_once : {r r' : ℕ} (κs : _) (a : _) (s s' : _) → next_start.Learnt κs a r s → next_start.Learnt κs a r' s' → r ≡ r'
next_start_once κs a s s' p q = p ∙ sym q
