-- Any two answers that satisfy a public function's promise are equal. Nothing is lent to be written in.
-- Said of what a caller learns from the contract (`Learnt`): both tell the same, and what tells the same is the same. Assumes nothing.
use Rattle.std.specs.Prelude.{ℕ, Result}
use mathlib.Core.Path.{◌≡◌, sym, ◌∙◌}
use Rattle.book.specs.declared.refusals.Refusal.{Refusal}
use Rattle.quote.proofs.quote.Reads as quote
use Rattle.book.proofs.Told.{numbers_apart}

pub quote_once : {r r' : Result ℕ Refusal} (κs : _) (a : _) (s s' : _) → quote.Learnt κs a r s → quote.Learnt κs a r' s' → r ≡ r'
quote_once κs a s s' p q = numbers_apart _ _ (p ∙ sym q)
