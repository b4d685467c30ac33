-- A run ends exactly where the transitions of source document 000's machine lead, at the first reason to end, with the reason as outcome.
-- Forth by the budget, a step a transition; back because transitions and reasons leave one end only. Assumes nothing.
use Prim.Native.Nat.{ℕ, zero, suc, ◌+◌, ◌≤◌}
use mathlib.Core.Path.{◌≡◌, refl, sym, ap, ◌∙◌}
use mathlib.Core.Logic.{◌↔◌}
use native.Mathlib.Omega.{arith}
use lib.ListN.{length, get_or}
use lib.Seq.{ext_get_or}
use Rattle.scope.specs.Ram.{Program, Configuration, Final}
use Rattle.scope.specs.Steps.{register_count, Registers, value, ValuesWithin, Next, at_the_end, before_full, goes_to, Outcome, ByItself, itself_FINISHED, itself_FULL, End, run_on, run_from}
use Rattle.scope.specs.Running.{flat_next, flat_run}
use Rattle.scope.specs.Transitions.{configuration, OurProgram, Full, Leads, here, one_more, Reason, finished, out_of_steps, full, RunEnds}
use Rattle.scope.proofs.Registers.{value_there}
use Rattle.scope.proofs.Ram.{has_one, one_transition}
use Rattle.scope.proofs.StepIsRam as step
use Rattle.scope.proofs.StepIsRam.{full_not_final, Stepped, ends, goes, stepped}

-- ---- a run ends so

later : {P : Program} {budget s : ℕ} {c : Configuration} {o : Outcome} → Reason P budget s c o → Reason P (suc budget) (suc s) c o
later (finished f) = finished f
later (out_of_steps nf e) = out_of_steps nf (ap suc e)
later (full nf n f) = full nf (λ e. n (omega (arith, e))) f

-- `RunEnds` for the rest of a run, with `left` of its budget left and s steps done before
record RestEnds (P : Program) (beyond : ℕ → ℕ) (left s line : ℕ) (rs : Registers) (e : End ℕ) : Type 0 where
  more : ℕ
  steps_are : e.steps ≡ s + more
  registers_again : length e.registers ≡ register_count
  leads : Leads P more (configuration beyond line rs) (configuration beyond e.place e.registers)
  within : more ≤ left
  reason : Reason P left more (configuration beyond e.place e.registers) e.outcome

ends_here :
    {P : Program} {beyond : ℕ → ℕ} {left s line : ℕ} {rs : Registers} {o : Outcome} → length rs ≡ register_count
    → Reason P left 0 (configuration beyond line rs) o
    → RestEnds P beyond left s line rs (record { outcome = o; steps = s; place = line; registers = rs })
ends_here len r = record { more = 0; steps_are = omega arith; registers_again = len; leads = here; within = omega arith; reason = r }

module _ {P : Program} (ours : OurProgram P) (beyond : ℕ → ℕ) where
  rest_ends : (left s line : ℕ) (rs : Registers) {n : Next ℕ} → length rs ≡ register_count → Stepped P beyond line rs n
      → RestEnds P beyond left s line rs (run_on (flat_next P) left s line rs n)
  unfolding run_on
  rest_ends zero s line rs len (ends f) = ends_here len (finished f)
  rest_ends zero s line rs len (step.full f) = ends_here len (out_of_steps (full_not_final f) refl)
  rest_ends zero s line rs len (goes nf nu g len' p w) = ends_here len (out_of_steps nf refl)
  rest_ends (suc left) s line rs len (ends f) = ends_here len (finished f)
  rest_ends (suc left) s line rs len (step.full f) = ends_here len (full (full_not_final f) (λ e. omega (arith, e)) f)
  rest_ends (suc left) s line rs len (goes {p'} {rs'} nf nu g len' p w) =
      let r = rest_ends left (suc s) p' rs' len' (stepped ours beyond p' rs' len' p) in
      record {
        more = suc r.more;
        steps_are = omega (arith, r.steps_are);
        registers_again = r.registers_again;
        leads = one_more nf nu g r.leads;
        within = omega (arith, r.within);
        reason = later r.reason;
      }

  run_ends :
      (start budget : ℕ) (rs : Registers) → length rs ≡ register_count → start ≤ length P
      → RunEnds P beyond start rs budget (flat_run P start budget rs)
  unfolding flat_run run_from
  run_ends start budget rs len h =
      let r = rest_ends budget 0 start rs len (stepped ours beyond start rs len h) in
      let e : r.more ≡ (flat_run P start budget rs).steps = omega (arith, r.steps_are) in
      record { registers_again = r.registers_again; leads = rw e at r.leads; within = rw e at r.within; reason = rw e at r.reason }

-- ---- it ends only so

record OneEnd (t t' : ℕ) (d d' : Configuration) (o o' : Outcome) : Type 0 where
  same_steps : t ≡ t'
  same_place : d ≡ d'
  same_outcome : o ≡ o'

module _ {P : Program} {budget : ℕ} where
  one_reason : {t t' : ℕ} {c : Configuration} {o o' : Outcome} → t ≡ t' → Reason P budget t c o → Reason P budget t' c o' → o ≡ o'
  one_reason e (finished f) (finished f') = refl
  one_reason e (finished f) (out_of_steps nf b) = absurd (nf f)
  one_reason e (finished f) (full nf n u) = absurd (nf f)
  one_reason e (out_of_steps nf b) (finished f) = absurd (nf f)
  one_reason e (out_of_steps nf b) (out_of_steps nf' b') = refl
  one_reason e (out_of_steps nf b) (full nf' n u) = absurd (n (omega (arith, e, b)))
  one_reason e (full nf n u) (finished f) = absurd (nf f)
  one_reason e (full nf n u) (out_of_steps nf' b) = absurd (n (omega (arith, e, b)))
  one_reason e (full nf n u) (full nf' n' u') = cc (has_one u.before_INC u'.before_INC)

  -- where a step is done, only the budget could have been a reason to end
  only_the_budget :
      {t : ℕ} {c : Configuration} {o : Outcome} → ¬ Final P c → ((j : ℕ) → ¬ Full P c j) → Reason P budget t c o → t ≡ budget
  only_the_budget nf nu (finished f) = absurd (nf f)
  only_the_budget nf nu (out_of_steps _ b) = b
  only_the_budget nf nu (full {j} _ n u) = absurd (nu j u)

  one_end : {t t' s s' : ℕ} {c d d' : Configuration} {o o' : Outcome} (before : ℕ) → Leads P s c d → Leads P s' c d'
      → t ≡ before + s → t' ≡ before + s' → t ≤ budget → t' ≤ budget → Reason P budget t d o → Reason P budget t' d' o' → OneEnd t t' d d' o o'
  one_end {t} {t'} before here here e e' h h' r r' =
      let z : t ≡ t' = omega (arith, e, e') in
      record { same_steps = z; same_place = refl; same_outcome = one_reason z r r' }
  one_end before here (one_more nf nu g l) e e' h h' r r' = absurd (omega (arith, only_the_budget nf nu r))
  one_end before (one_more nf nu g l) here e e' h h' r r' = absurd (omega (arith, only_the_budget nf nu r'))
  one_end before (one_more nf nu g l) (one_more nf' nu' g' l') e e' h h' r r' =
      one_end (suc before) l (rw (one_transition g' g) at l') (omega (arith, e)) (omega (arith, e')) h h' r r'

-- lists of our 32 registers that begin the same row are equal
same_registers : (beyond : ℕ → ℕ) (rs ss : Registers) → length rs ≡ register_count → length ss ≡ register_count
    → ((j : ℕ) → get_or rs j (beyond j) ≡ get_or ss j (beyond j)) → rs ≡ ss
unfolding value
same_registers beyond rs ss m n e =
    ext_get_or 0 rs ss (m ∙ sym n)
    (λ j h. sym (value_there beyond rs j m (omega (arith, m))) ∙ e j ∙ value_there beyond ss j n (omega (arith, m)))

module _ {P : Program} {beyond : ℕ → ℕ} {start budget : ℕ} {rs : Registers} where
  run_ends_once : {e e' : End ℕ} → RunEnds P beyond start rs budget e → RunEnds P beyond start rs budget e' → e ≡ e'
  unfolding configuration
  run_ends_once {e} {e'} r r' =
      let s = one_end 0 r.leads r'.leads (omega arith) (omega arith) r.within r'.within r.reason r'.reason in
      let place_is : e.place ≡ e'.place = ap (λ c. c.pc) s.same_place in
      let registers_are : e.registers ≡ e'.registers =
      same_registers beyond e.registers e'.registers r.registers_again r'.registers_again (λ j. ap (λ c. c.registers j) s.same_place) in
      λ i. record { outcome = s.same_outcome i; steps = s.same_steps i; place = place_is i; registers = registers_are i }

-- ---- the laws

pub run_exactly :
    {P : Program} → OurProgram P → (beyond : ℕ → ℕ) (start budget : ℕ) (rs : Registers) (e : End ℕ) → length rs ≡ register_count
    → start ≤ length P
    → (flat_run P start budget rs ≡ e) ↔ RunEnds P beyond start rs budget e
run_exactly {P} ours beyond start budget rs e len h = (λ z. rw z at r, λ r'. run_ends_once r r')
  where
    r : RunEnds P beyond start rs budget (flat_run P start budget rs)
    r = run_ends ours beyond start budget rs len h

-- A FINISHED or FULL answer is the same under every larger budget.
pub more_budget :
    {P : Program} → OurProgram P → (start budget budget' : ℕ) (rs : Registers) (e : End ℕ) → length rs ≡ register_count → start ≤ length P
    → flat_run P start budget rs ≡ e → ByItself e.outcome → budget ≤ budget' → flat_run P start budget' rs ≡ e
more_budget {P} ours start budget budget' rs e len h z stopped le =
    (run_exactly ours beyond start budget' rs e len h).1 (record {
      registers_again = r.registers_again;
      leads = r.leads;
      within = omega (arith, r.within);
      reason = still stopped r.within r.reason;
    })
  where
    beyond : ℕ → ℕ
    beyond j = 0

    r : RunEnds P beyond start rs budget e
    r = (run_exactly ours beyond start budget rs e len h).0 z

    still : {s : ℕ} {c : Configuration} {o : Outcome} → ByItself o → s ≤ budget → Reason P budget s c o → Reason P budget' s c o
    still itself_FINISHED w (finished f) = finished f
    still itself_FULL w (full nf b f) = full nf (λ c. b (omega (arith, c))) f

-- ---- what every step keeps, a run keeps

module _ {P : Type 0} (next : P → Registers → Next P) (Q : P → Registers → Type 0)
    (kept : (p p' : P) (rs rs' : Registers) → Q p rs → next p rs ≡ goes_to p' rs' → Q p' rs') where
  rest_keeps : (left s : ℕ) (p : P) (rs : Registers) (n : Next P) → next p rs ≡ n → Q p rs
      → Q (run_on next left s p rs n).place (run_on next left s p rs n).registers
  unfolding run_on
  rest_keeps zero s p rs at_the_end e q = q
  rest_keeps zero s p rs (before_full r) e q = q
  rest_keeps zero s p rs (goes_to p' rs') e q = q
  rest_keeps (suc left) s p rs at_the_end e q = q
  rest_keeps (suc left) s p rs (before_full r) e q = q
  rest_keeps (suc left) s p rs (goes_to p' rs') e q = rest_keeps left (suc s) p' rs' (next p' rs') refl (kept p p' rs rs' q e)

-- at a line of 0 to n, with 32 registers of 0 to 65,535
pub record Ours (P : Program) (line : ℕ) (rs : Registers) : Type 0 where
  pub line_within : line ≤ length P
  pub registers_32 : length rs ≡ register_count
  pub values_within : ValuesWithin rs

-- A run of our program that starts so ends so.
pub run_stays_ours :
    {P : Program} → OurProgram P → (start budget : ℕ) (rs : Registers) → Ours P start rs
    → Ours P (flat_run P start budget rs).place (flat_run P start budget rs).registers
unfolding flat_run run_from
run_stays_ours {P} ours start budget rs o =
    rest_keeps (flat_next P) (Ours P) (λ p p' rs rs' q e.
    let s = step.step_is_ram ours (λ j. 0) p rs q.registers_32 q.line_within in
    record { line_within = s.line_again e; registers_32 = s.registers_again e; values_within = s.values_again q.values_within e })
    budget 0 start rs (flat_next P start rs) refl o
