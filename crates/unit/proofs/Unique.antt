-- Any two answers that satisfy a public function's promise are equal, and so are the last contents of what it was lent to write in.
-- Said of what a caller learns from the contract (`Learnt`): both tell the same, and what tells the same is the same. Assumes nothing.
use mathlib.Core.Path.{◌≡◌, refl, sym, ◌∙◌, ap}
use Rattle.unit.specs.declared.Stepped.{Stepped}
use Rattle.unit.proofs.run.Reads as run
use Rattle.unit.proofs.step.Reads as step
use Rattle.unit.proofs.registers.registers_of.Reads as registers_of
use Rattle.unit.proofs.registers.put_registers.Reads as put_registers
use Rattle.unit.proofs.Told.{runs_apart, states_apart}

pub run_once : (κs : _) (a : _) (r r' : _) (s s' : _) → run.Learnt κs a r s → run.Learnt κs a r' s'
    → (r ≡ r') × (s.1.1.0.now ≡ s'.1.1.0.now)
run_once κs a r r' s s' p q =
    let same = p ∙ sym q in
    (runs_apart r r' (ap (λ c. c.answer) same), ap (λ c. c.left) same)

pub step_once : {r r' : Stepped} (κs : _) (a : _) (s s' : _) → step.Learnt κs a r s → step.Learnt κs a r' s' → r ≡ r'
step_once {r} {r'} κs a s s' p q =
    let same = p ∙ sym q in
    let ran = runs_apart r.ran r'.ran (ap (λ c. c.answer) same) in
    let state = states_apart r.state r'.state (ap (λ c. c.left) same) in
    λ i. record { ran = ran i; state = state i }

pub registers_of_once : (κs : _) (a : _) (r r' : _) (s s' : _) → registers_of.Learnt κs a r s → registers_of.Learnt κs a r' s' → r ≡ r'
registers_of_once κs a r r' s s' p q = p ∙ sym q

pub put_registers_once : (κs : _) (a : _) (r r' : _) (s s' : _) → put_registers.Learnt κs a r s → put_registers.Learnt κs a r' s'
    → (r ≡ r') × (s.1.0.now ≡ s'.1.0.now)
put_registers_once κs a r r' s s' p q = (refl, p ∙ sym q)
