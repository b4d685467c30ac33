-- Any two answers that satisfy the public function's promise are equal, and so are the last contents of what it was lent to write in.
-- Said of what a caller learns from the contract (`Learnt`): it gives the count and what is left. Assumes nothing.
use mathlib.Core.Path.{◌≡◌, sym, ◌∙◌, ap}
use Rattle.counter.proofs.answer.Reads as answer

pub answer_once : (κs : _) (a : _) (r r' : _) (s s' : _) → answer.Learnt κs a r s → answer.Learnt κs a r' s'
    → (r ≡ r') × (s.1.0.now ≡ s'.1.0.now)
answer_once κs a r r' s s' p q =
    let same = p.0 ∙ sym q.0 in
    (ap (λ c. c.count) same, ap (λ c. c.left) same)
