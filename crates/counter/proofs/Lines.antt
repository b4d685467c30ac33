-- Each line that is printed is a word and two numbers, a FULL line one number more; registers are listed line by line.
-- Read off `print_line`, clause by clause; the loop over the registers has the lines of those from j on before it. Assumes nothing.
use Rattle.std.specs.Prelude.{Result, Ok, Err}
use Rattle.book.specs.Told as book
use Prim.Native.Nat.{ℕ, zero, suc, ◌+◌, ◌≤◌, ◌<◌}
use native.Mathlib.Omega.{arith}
use native.Mathlib.Numerals.{add-one}
use mathlib.Core.Path.{◌≡◌, refl, sym, ◌∙◌, ap}
use mathlib.Core.Logic.{◌≢◌}
use mathlib.Core.List.{List, [], ◌∷◌, ◌++◌, append_assoc, append-nil}
use lib.ListN.{length, length-append, take, drop, get_or, drop_of_length-le}
use lib.Seq.{drop-cons}
use Rattle.io.specs.Digits.{last_digits, IsDigitCount}
use Rattle.scope.specs.Refusals as paper
use Rattle.scope.specs.Refusals.{number}
use Rattle.scope.specs.Steps as steps
use Rattle.scope.specs.Steps.{Registers}
use Rattle.scope.specs.Shop.{ascii, decimal, print_line, outcome_line, register_line, register_lines, print_refusal}
use Rattle.book.specs.declared.refusals.Refusal.{Refusal}
use Rattle.book.specs.declared.lines.Reg.{Reg}
use Rattle.book.specs.Told.{name_told, refusal_told}
use Rattle.unit.specs.declared.machine.Outcome.{Outcome}
use Rattle.unit.specs.declared.machine.Outcome.TheVariants.{Finished, OutOfSteps, Full}
use Rattle.unit.specs.declared.machine.Answer.{Answer}
use Rattle.unit.specs.Told.{outcome_told, answer_told, ran_told}
use Rattle.counter.specs.Printed.{Room, number_and, two_numbers, word_and_two, print_answer}
use Rattle.counter.proofs.Decimal.{digits_are_decimal}
use Rattle.counter.proofs.Texts.{texts, room_for_the_first, room_for_the_second, Parts}

-- ---- what texts are made of

-- what the kit spells of a number, and the byte behind it
pub number_in_parts : (n k behind : ℕ) (spelled : List ℕ) → IsDigitCount 10 1 n k → spelled ≡ last_digits 10 k n → Parts (number_and n behind) spelled (behind ∷ [])
unfolding number_and
number_in_parts n k behind spelled fewest its_digits = record { joined = rw (its_digits ∙ digits_are_decimal n k fewest) refl }

pub two_in_parts : (n m behind : ℕ) → Parts (two_numbers n m behind) (number_and n 32) (number_and m behind)
unfolding two_numbers
two_in_parts n m behind = record { joined = refl }

pub word_in_parts : (word : List ℕ) (n m behind : ℕ) → Parts (word_and_two word n m behind) word (two_numbers n m behind)
unfolding word_and_two
word_in_parts word n m behind = record { joined = refl }

-- a line's fields, as document 01 parts them
fields_parted : (word : List ℕ) (n m : ℕ) (rest : List ℕ) → word ++ (decimal n ++ (32 ∷ (decimal m ++ rest))) ≡ word ++ (number_and n 32 ++ (decimal m ++ rest))
unfolding number_and
fields_parted word n m rest = simp append_assoc

-- ---- what each line says

pub refusal_says : (x : paper.Refusal) → print_refusal x ≡ word_and_two (ascii "REFUSED ") (number x.name) x.place 10
unfolding print_refusal print_line ascii word_and_two two_numbers number_and
refusal_says x = fields_parted (ascii "REFUSED ") (number x.name) x.place (10 ∷ [])

module _ (s l : ℕ) where
  pub FINISHED_says : outcome_line steps.FINISHED s l ≡ word_and_two (ascii "FINISHED ") s l 10
  unfolding outcome_line print_line ascii word_and_two two_numbers number_and
  FINISHED_says = fields_parted (ascii "FINISHED ") s l (10 ∷ [])

  pub OUT_OF_STEPS_says : outcome_line steps.OUT_OF_STEPS s l ≡ word_and_two (ascii "OUT OF STEPS ") s l 10
  unfolding outcome_line print_line ascii word_and_two two_numbers number_and
  OUT_OF_STEPS_says = fields_parted (ascii "OUT OF STEPS ") s l (10 ∷ [])

  pub FULL_says : (r : ℕ) → outcome_line (steps.FULL r) s l ≡ word_and_two (ascii "FULL ") s l 32 ++ number_and r 10
  unfolding outcome_line print_line ascii word_and_two two_numbers number_and
  FULL_says r = fields_parted (ascii "FULL ") s l (32 ∷ number_and r 10) ∙ simp append_assoc

pub R_says : (j v : ℕ) → v ≢ 0 → register_line j v ≡ word_and_two (ascii "R") j v 10
unfolding register_line print_line ascii word_and_two two_numbers number_and
R_says j zero h = absurd (h refl)
R_says j (suc v) h = fields_parted (ascii "R") j (suc v) (10 ∷ [])

-- ---- what the code prints

pub refusal_line : (x : Refusal) (n : ℕ) → n ≡ number (name_told x.name)
    → print_refusal (refusal_told x) ≡ word_and_two (ascii "REFUSED ") n x.place 10
unfolding refusal_told
refusal_line x n e = rw e (refusal_says (refusal_told x))

module _ (o : Outcome) (s l : ℕ) where
  pub FINISHED_line : o ≡ Finished → outcome_line (outcome_told o) s l ≡ word_and_two (ascii "FINISHED ") s l 10
  unfolding outcome_told
  FINISHED_line e = rw e (FINISHED_says s l)

  pub OUT_OF_STEPS_line : o ≡ OutOfSteps → outcome_line (outcome_told o) s l ≡ word_and_two (ascii "OUT OF STEPS ") s l 10
  unfolding outcome_told
  OUT_OF_STEPS_line e = rw e (OUT_OF_STEPS_says s l)

  pub FULL_line : {r : Reg} → o ≡ Full r → outcome_line (outcome_told o) s l ≡ word_and_two (ascii "FULL ") s l 32 ++ number_and r.0 10
  unfolding outcome_told
  FULL_line {r} e = rw e (FULL_says s l r.0)

  pub FULL_in_parts : {r : Reg} → o ≡ Full r → Parts (outcome_line (outcome_told o) s l) (word_and_two (ascii "FULL ") s l 32) (number_and r.0 10)
  FULL_in_parts e = record { joined = FULL_line e }

-- how `put_outcome` is met
pub ruleset outcomes = (texts, FINISHED_line, FULL_line)

module _ (r : Result Answer Refusal) (rs : Registers) where
  pub answer_is_its_refusal : {x : Refusal} → r ≡ Err x → print_answer (ran_told r) rs ≡ print_refusal (refusal_told x)
  unfolding print_answer book.result_told
  answer_is_its_refusal e = rw e refl

  pub answer_is_its_lines : {a : Answer} → r ≡ Ok a
      → print_answer (ran_told r) rs ≡ outcome_line (outcome_told a.outcome) a.steps a.line.0 ++ register_lines 0 rs
  unfolding print_answer book.result_told answer_told
  answer_is_its_lines e = rw e refl

  pub answer_in_parts : {a : Answer} → r ≡ Ok a
      → Parts (print_answer (ran_told r) rs) (outcome_line (outcome_told a.outcome) a.steps a.line.0) (register_lines 0 rs)
  answer_in_parts e = record { joined = answer_is_its_lines e }

-- how `put_ran` is met
pub ruleset ran = (texts, answer_is_its_refusal, answer_is_its_lines, room_for_the_second)

-- ---- registers

pub zero_not_printed : (j v : ℕ) (out : List ℕ) → v ≡ 0 → out ≡ out ++ register_line j v
unfolding register_line
zero_not_printed j v out e = rw e (sym (append-nil out))

-- how `put_register` is met
pub ruleset one_register = (R_says, zero_not_printed)

one_more_line : (i j : ℕ) (rs : Registers) → j < length rs
    → register_lines i (take (suc j) rs) ≡ register_lines i (take j rs) ++ register_line (i + j) (get_or rs j 0)
unfolding register_lines
one_more_line i j [] h = absurd (omega arith)
one_more_line i zero (v ∷ rs) h =
    let here : i + 0 ≡ i = omega arith in
    rw here (append-nil (register_line i v))
one_more_line i (suc j) (v ∷ rs) h =
    let there : suc i + j ≡ i + suc j = omega arith in
    rw (one_more_line (suc i) j rs (omega arith), there) (sym (append_assoc (register_line i v) _ _))

pub no_longer : (i j : ℕ) (rs : Registers) → length (register_lines i (take j rs)) ≤ length (register_lines i rs)
unfolding register_lines
no_longer i zero rs = omega arith
no_longer i (suc j) [] = omega arith
no_longer i (suc j) (v ∷ rs) =
    omega (
      arith,
      no_longer (suc i) j rs,
      length-append (register_line i v) (register_lines (suc i) (take j rs)),
      length-append (register_line i v) (register_lines (suc i) rs),
    )

-- The lines of the registers before j: there is room for them where there is for all, and the next line stands behind them.
module _ (rs : Registers) where
  room_to : (out₀ : List ℕ) → Room (register_lines 0 rs) out₀ → (k : ℕ) → Room (register_lines 0 (take k rs)) out₀
  room_to out₀ room k = omega (arith, room, no_longer 0 k rs)

  pub line_behind : (j : ℕ) → j < length rs → Parts (register_lines 0 (take (j + 1) rs)) (register_lines 0 (take j rs)) (register_line j (get_or rs j 0))
  line_behind j h =
      let here : 0 + j ≡ j = omega arith in
      record { joined = rw (add-one j) (one_more_line 0 j rs h ∙ ap (λ k. register_lines 0 (take j rs) ++ register_line k (get_or rs j 0)) here) }

-- The lines from a register on are its own line and those behind it.
pub lines_from : (j : ℕ) (rs : Registers) → j < length rs
    → register_lines j (drop j rs) ≡ register_line j (get_or rs j 0) ++ register_lines (j + 1) (drop (j + 1) rs)
unfolding register_lines
lines_from j rs h = rw (drop-cons rs j 0 h, add-one j) refl

-- What is printed and the lines from register j on are what was printed first and all lines.
module _ (rs : Registers) (out₀ out : List ℕ) (j : ℕ) (so_far : out ++ register_lines j (drop j rs) ≡ out₀ ++ register_lines 0 rs) where
  pub room_for_a_register : Room (register_lines 0 rs) out₀ → j < length rs → Room (register_line j (get_or rs j 0)) out
  room_for_a_register room h =
      let all_fits : Room (register_lines j (drop j rs)) out =
      omega (arith, room, ap length so_far, length-append out (register_lines j (drop j rs)), length-append out₀ (register_lines 0 rs)) in
      room_for_the_first _ _ _ (lines_from j rs h) all_fits

  pub all_listed : length rs ≤ j → out ≡ out₀ ++ register_lines 0 rs
  unfolding register_lines
  all_listed h = sym (append-nil out) ∙ rw (drop_of_length-le rs {i = j} h) at so_far

-- how `put_registers` is met
pub ruleset listed = (texts, lines_from, room_for_a_register, all_listed)
