-- Any two answers that satisfy a public function's promise are equal, and so are the last contents of what it was lent to write in.
-- Said of what a caller learns from the contract (`Learnt`): both tell the same fields, and the fields are all that an answer has. Assumes nothing.
use mathlib.Core.Path.{◌≡◌, sym, ◌∙◌, ap}
use Rattle.page.specs.declared.answers.FlattenAnswer.{FlattenAnswer}
use Rattle.page.specs.declared.answers.RunAnswer.{RunAnswer}
use Rattle.page.specs.declared.answers.QuoteAnswer.{QuoteAnswer}
use Rattle.page.specs.Told.{flatten_told, run_told, quote_told}
use Rattle.page.proofs.zn_flatten.Reads as zn_flatten
use Rattle.page.proofs.zn_run.Reads as zn_run
use Rattle.page.proofs.zn_quote.Reads as zn_quote

flatten_answers_apart : (r r' : FlattenAnswer) → flatten_told r ≡ flatten_told r' → r ≡ r'
unfolding flatten_told
flatten_answers_apart r r' e = λ i. record { refusal = (e i).refusal; place = (e i).place; lines = (e i).lines }

pub zn_flatten_once : (κs : _) (a : _) (r r' : _) (s s' : _) → zn_flatten.Learnt κs a r s → zn_flatten.Learnt κs a r' s'
    → (r ≡ r') × (s.1.1.0.now ≡ s'.1.1.0.now)
zn_flatten_once κs a r r' s s' p q =
    let same = p ∙ sym q in
    (flatten_answers_apart r r' (ap (λ c. c.fields) same), ap (λ c. c.left) same)

run_answers_apart : (r r' : RunAnswer) → run_told r ≡ run_told r' → r ≡ r'
unfolding run_told
run_answers_apart r r' e =
    λ i. record { refusal = (e i).refusal; place = (e i).place; outcome = (e i).outcome; register = (e i).register; steps = (e i).steps; line = (e i).line }

pub zn_run_once : (κs : _) (a : _) (r r' : _) (s s' : _) → zn_run.Learnt κs a r s → zn_run.Learnt κs a r' s'
    → (r ≡ r') × (s.1.1.0.now ≡ s'.1.1.0.now)
zn_run_once κs a r r' s s' p q =
    let same = p ∙ sym q in
    (run_answers_apart r r' (ap (λ c. c.fields) same), ap (λ c. c.left) same)

quote_answers_apart : (r r' : QuoteAnswer) → quote_told r ≡ quote_told r' → r ≡ r'
unfolding quote_told
quote_answers_apart r r' e = λ i. record { refusal = (e i).refusal; place = (e i).place; quote = (e i).quote }

pub zn_quote_once : (κs : _) (a : _) (r r' : _) (s s' : _) → zn_quote.Learnt κs a r s → zn_quote.Learnt κs a r' s' → r ≡ r'
zn_quote_once κs a r r' s s' p q = quote_answers_apart r r' (p ∙ sym q)
