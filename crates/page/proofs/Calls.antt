-- What C gets of flattening, of a run and of the quote: the answer field by field, and the bytes of the output or of the registers.
-- Any other length than 64 is refused as a run is that is lent no registers; with 64 the page's run is a run of the registers that they say. Assumes nothing.
use Rattle.std.specs.Prelude.{Result, Ok, Err}
use Prim.Native.Nat.{ℕ}
use mathlib.Core.Bool.{Bool, true, false}
use mathlib.Core.Path.{◌≡◌, refl, sym, ◌∙◌, ap}
use mathlib.Core.Logic.{◌≢◌}
use mathlib.Core.List.{List, []}
use lib.ListN.{length}
use Rattle.scope.specs.Words.{◌is_not◌, ◌above◌, if}
use Rattle.scope.specs.Refusals as paper
use Rattle.scope.specs.Refusals.{number, NOT_FLAT, REGISTERS, Verdict, refusal, pass, refuse, accepted, Call, call_of, answer_of}
use Rattle.scope.specs.Book.{two_bytes_each, routines, book_verdict}
use Rattle.scope.specs.Steps.{register_count, Registers, End}
use Rattle.scope.specs.Flattening.{flatten_call}
use Rattle.scope.specs.Running as running
use Rattle.scope.specs.Quote.{quote_answer}
use Rattle.scope.specs.Running.{program_of, flat_run, run_verdict, ran, run_call}
use Rattle.scope.specs.Page.{flatten_fields, page_flatten, registers_length, registers_of, outcome_number, full_register, run_fields, page_run_call, page_run, quote_fields, page_quote}
use Rattle.scope.proofs.Verdicts.{if_true, if_false, is_not_tells, then_goes_on, then_refuses, refused_exactly_when, accepted_only_where_passed, call_where_passed, refusal_writes_nothing}
use Rattle.scope.proofs.Lists.{length_listed}
use Rattle.book.specs.declared.refusals.Refusal.{Refusal}
use Rattle.book.specs.Told as book
use Rattle.book.specs.Told.{name_told, refusal_told, result_told, number_told}
use Rattle.unit.specs.declared.machine.Answer.{Answer}
use Rattle.unit.specs.Told.{outcome_told, answer_told, ran_told}
use Rattle.page.specs.declared.answers.FlattenAnswer.{FlattenAnswer}
use Rattle.page.specs.declared.answers.RunAnswer.{RunAnswer}
use Rattle.page.specs.declared.answers.QuoteAnswer.{QuoteAnswer}
use Rattle.page.specs.Told.{flatten_told, run_told, quote_told}

-- ---- flattening

module _ (r : Result ℕ Refusal) where
  pub flattening_refused : {x : Refusal} (n : ℕ) → r ≡ Err x → n ≡ number (name_told x.name)
      → flatten_told (record { refusal = n; place = x.place; lines = 0 }) ≡ flatten_fields (number_told r)
  unfolding flatten_told flatten_fields result_told refusal_told
  flattening_refused n e f = rw (e, f) refl

  pub flattening_accepted : {n : ℕ} → r ≡ Ok n → flatten_told (record { refusal = 0; place = 0; lines = n }) ≡ flatten_fields (number_told r)
  unfolding flatten_told flatten_fields result_told
  flattening_accepted e = rw e refl

  pub flattens_for_C : (b : List ℕ) (k : ℕ) (out out' : List ℕ) (a : FlattenAnswer) → record { answer = number_told r; left = out' } ≡ flatten_call b k out
      → flatten_told a ≡ flatten_fields (number_told r) → record { fields = flatten_told a; left = out' } ≡ page_flatten b k out
  unfolding page_flatten
  flattens_for_C b k out out' a told fields =
      (λ i. record { fields = fields i; left = out' }) ∙ ap (λ c. record { fields = flatten_fields c.answer; left = c.left }) told

-- ---- the fields of a run

module _ (r : Result Answer Refusal) where
  pub fields_refused : {x : Refusal} (n : ℕ) → r ≡ Err x → n ≡ number (name_told x.name)
      → run_told (record { refusal = n; place = x.place; outcome = 0; register = 0; steps = 0; line = 0 }) ≡ run_fields (ran_told r)
  unfolding run_told run_fields result_told refusal_told
  fields_refused n e f = rw (e, f) refl

  pub fields_done : {a : Answer} (o g : ℕ) → r ≡ Ok a → o ≡ outcome_number (outcome_told a.outcome) → g ≡ full_register (outcome_told a.outcome)
      → run_told (record { refusal = 0; place = 0; outcome = o; register = g; steps = a.steps; line = a.line.0 }) ≡ run_fields (ran_told r)
  unfolding run_told run_fields result_told answer_told
  fields_done o g e f h = rw (e, f, h) refl

  pub fields_of_the_call : (c : Call running.Ran Registers) (rs' : Registers) (a : RunAnswer) → record { answer = ran_told r; left = rs' } ≡ c
      → run_told a ≡ run_fields (ran_told r) → run_told a ≡ run_fields c.answer
  fields_of_the_call c rs' a told fields = fields ∙ ap (λ d. run_fields d.answer) told

-- ---- any other length is 16

-- Lent other registers than 32, every run is refused.
refused_somehow : (b : List ℕ) (start : ℕ) → (x : paper.Refusal) × (run_verdict b true start ≡ refuse x)
unfolding run_verdict if
refused_somehow b start = after_the_book (book_verdict b) refl
  where
    after_the_book : (v : Verdict) → book_verdict b ≡ v → (x : paper.Refusal) × (run_verdict b true start ≡ refuse x)
    after_the_book (refuse x) e = (x, then_refuses _ e)
    after_the_book pass e = then_flat (routines b above 1) refl
      where
        then_flat : (t : Bool) → (routines b above 1) ≡ t → (x : paper.Refusal) × (run_verdict b true start ≡ refuse x)
        then_flat true h = (refusal NOT_FLAT 0, then_goes_on _ e ∙ if_true _ _ _ h)
        then_flat false h = (refusal REGISTERS 0, then_goes_on _ e ∙ if_false _ _ _ h)

module _ (b bytes : List ℕ) (start budget : ℕ) where
  -- what C gets where the page's run comes to this
  gets : {c : Call running.Ran (List ℕ)} (a : RunAnswer) → page_run_call b start bytes budget ≡ c → run_told a ≡ run_fields c.answer
      → record { fields = run_told a; left = c.left } ≡ page_run b start bytes budget
  unfolding page_run
  gets {c} a e f = (λ i. record { fields = f i; left = c.left }) ∙ ap (λ d. record { fields = run_fields d.answer; left = d.left }) (sym e)

  pub other_length : (a : RunAnswer) → length bytes ≢ registers_length → run_told a ≡ run_fields (run_call b start [] budget).answer
      → record { fields = run_told a; left = bytes } ≡ page_run b start bytes budget
  unfolding run_call page_run_call
  other_length a h e =
      let (x, v) = refused_somehow b start in
      let wrong = (is_not_tells (length bytes) registers_length).when_true.1 h in
      gets a
      (refusal_writes_nothing _ _ bytes (ap (λ t. run_verdict b t start) wrong ∙ v))
      (e ∙ ap (λ c. run_fields c.answer) (refusal_writes_nothing _ _ [] v))

  module _ (h : length bytes ≡ registers_length) (rs : Registers) (said : rs ≡ registers_of bytes) (r : Result Answer Refusal) (rs' : Registers)
      (told : record { answer = ran_told r; left = rs' } ≡ run_call b start rs budget)
      (a : RunAnswer) (fields : run_told a ≡ run_fields (ran_told r)) where
    abbrev ended : End ℕ
    ended = flat_run (program_of b) start budget (registers_of bytes)

    abbrev verdict : Verdict
    verdict = run_verdict b (length bytes is_not registers_length) start

    ran_so : record { answer = ran_told r; left = rs' } ≡ call_of verdict (ran ended) ended.registers (registers_of bytes)
    unfolding run_call registers_of
    ran_so =
        let right = (is_not_tells (length bytes) registers_length).when_false.1 h in
        let right' = (is_not_tells (length (registers_of bytes)) register_count).when_false.1 (length_listed _ 0 register_count) in
        rw said at told ∙ ap (λ t. call_of (run_verdict b t start) (ran ended) ended.registers (registers_of bytes)) (right' ∙ sym right)

    answered : ran_told r ≡ answer_of verdict (ran ended)
    unfolding call_of
    answered = ap (λ c. c.answer) ran_so

    pub run_is_refused : {x : Refusal} → r ≡ Err x → record { fields = run_told a; left = bytes } ≡ page_run b start bytes budget
    unfolding page_run_call book.result_told
    run_is_refused e =
        gets a
        (refusal_writes_nothing _ _ bytes ((refused_exactly_when _ _ _).0 (sym answered ∙ ap ran_told e)))
        (fields ∙ ap (λ y. run_fields (ran_told y)) e)

    pub run_is_done : {d : Answer} (bytes' : List ℕ) → r ≡ Ok d → bytes' ≡ two_bytes_each rs'
        → record { fields = run_told a; left = bytes' } ≡ page_run b start bytes budget
    unfolding page_run_call book.result_told
    run_is_done bytes' e put =
        let (passes, same) = accepted_only_where_passed verdict (sym answered ∙ ap ran_told e) in
        let kept : rs' ≡ ended.registers = ap (λ c. c.left) (ran_so ∙ call_where_passed _ _ _ passes) in
        (λ i. record { fields = run_told a; left = (put ∙ ap two_bytes_each kept) i })
        ∙ gets a (call_where_passed _ _ bytes passes) (fields ∙ ap (λ y. run_fields (ran_told y)) e ∙ ap (λ y. run_fields (accepted y)) (sym same))

-- ---- the quote

module _ (r : Result ℕ Refusal) where
  pub quote_refused : {x : Refusal} (n : ℕ) → r ≡ Err x → n ≡ number (name_told x.name)
      → quote_told (record { refusal = n; place = x.place; quote = 0 }) ≡ quote_fields (number_told r)
  unfolding quote_told quote_fields result_told refusal_told
  quote_refused n e f = rw (e, f) refl

  pub quote_accepted : {n : ℕ} → r ≡ Ok n → quote_told (record { refusal = 0; place = 0; quote = n }) ≡ quote_fields (number_told r)
  unfolding quote_told quote_fields result_told
  quote_accepted e = rw e refl

  pub quotes_for_C : (b : List ℕ) (k : ℕ) (a : QuoteAnswer) → number_told r ≡ quote_answer b k → quote_told a ≡ quote_fields (number_told r)
      → quote_told a ≡ page_quote b k
  unfolding page_quote
  quotes_for_C b k a told fields = fields ∙ ap quote_fields told
