-- What is said from the lowest routine up is said of each routine by the paper's own sentence: its length is the sum of its lines, ..
-- A routine uses lower ones only, so two bounds above its number hand it the same. One law serves all that is said so.
use Prim.Native.Nat.{ℕ, zero, suc, ◌+◌, ◌<◌}
use native.Mathlib.Omega.{arith}
use mathlib.Core.Bool.{Bool, true, false}
use mathlib.Core.Path.{◌≡◌, refl, fun_ext}
use mathlib.Core.Logic.{◌⊎◌, inl, inr}
use mathlib.Core.List.{List, [], ◌∷◌}
use lib.ListN.{drop}
use Rattle.scope.specs.Ram.{Program}
use Rattle.scope.specs.Book.{Line, INC, DEC, GO_TO, CALL, REPEAT, Book, routine, used, LineUses, by_CALL, by_REPEAT, CalleesBelow, said_below, from_the_lowest_up}
use Rattle.scope.specs.Nested.{OpenedBy, Place, come_to, enter_by, enter}
use Rattle.scope.specs.Flattening.{line_length, sum_of, length_by, flat_length, copy_line, copy_lines, copy_by, copy, deepest, depth_by, depth}
use Rattle.scope.specs.Quote.{some_line, in_or_under_by, in_or_under, line_steady, lines_steady, steady_by, line_quote, quote_by, quote}

-- ---- the bound does not matter

-- a rule that looks only at what is said of lower routines
abbrev LooksBelow : {A : Type 0} → ((ℕ → A) → ℕ → A) → Type 0
LooksBelow {A} rule = (f g : ℕ → A) (k : ℕ) → ((c : ℕ) → c < k → f c ≡ g c) → rule f k ≡ rule g k

module _ {A : Type 0} (nothing : A) (rule : (ℕ → A) → ℕ → A) (looks_below : LooksBelow rule) where
  bound_does_not_matter : (m n k : ℕ) → k < m → k < n → said_below nothing rule m k ≡ said_below nothing rule n k
  unfolding said_below
  bound_does_not_matter zero n k p q = absurd (omega arith)
  bound_does_not_matter (suc m) zero k p q = absurd (omega arith)
  bound_does_not_matter (suc m) (suc n) k p q =
      looks_below (said_below nothing rule m) (said_below nothing rule n) k (λ c e. bound_does_not_matter m n c (omega arith) (omega arith))

  said_by_the_rule : (k : ℕ) → from_the_lowest_up nothing rule k ≡ rule (from_the_lowest_up nothing rule) k
  unfolding said_below from_the_lowest_up
  said_by_the_rule k =
      looks_below (said_below nothing rule k) (from_the_lowest_up nothing rule) k (λ c e. bound_does_not_matter k (suc c) c e (omega arith))

-- ---- what is said of lines looks only at the routines that they use

-- f and g say the same of the routines that a line, or one of some lines, uses
abbrev AgreeOn : {A : Type 0} → (f g : ℕ → A) → Line → Type 0
AgreeOn f g l = (c : ℕ) → LineUses l c → f c ≡ g c

abbrev AgreeOnAll : {A : Type 0} → (f g : ℕ → A) → List Line → Type 0
AgreeOnAll f g ls = (i : ℕ) (l : Line) (rest : List Line) → drop i ls ≡ l ∷ rest → AgreeOn f g l

module _ {A : Type 0} {f g : ℕ → A} where
  on_the_first : {l : Line} {ls : List Line} → AgreeOnAll f g (l ∷ ls) → AgreeOn f g l
  on_the_first {l} {ls} same = same 0 l ls refl

  on_the_rest : {l : Line} {ls : List Line} → AgreeOnAll f g (l ∷ ls) → AgreeOnAll f g ls
  on_the_rest same i = same (suc i)

  used_agrees : (nothing : A) (l : Line) → AgreeOn f g l → used nothing f l ≡ used nothing g l
  unfolding used
  used_agrees nothing (INC r) same = refl
  used_agrees nothing (DEC r t) same = refl
  used_agrees nothing (GO_TO t) same = refl
  used_agrees nothing (CALL c) same = same c by_CALL
  used_agrees nothing (REPEAT r c) same = same c by_REPEAT

-- What is said of the routine that a line uses is said of the line; where it uses none, nothing is.
pub used_is : {A : Type 0} (nothing : A) (f : ℕ → A) {l : Line} {c : ℕ} → LineUses l c → used nothing f l ≡ f c
unfolding used
used_is nothing f by_CALL = refl
used_is nothing f by_REPEAT = refl

pub one_used_or_none :
    {A : Type 0} (nothing : A) (f : ℕ → A) (l : Line)
    → (used nothing f l ≡ nothing) ⊎ ((c : ℕ) × LineUses l c × (used nothing f l ≡ f c))
unfolding used
one_used_or_none nothing f (INC r) = inl refl
one_used_or_none nothing f (DEC r t) = inl refl
one_used_or_none nothing f (GO_TO t) = inl refl
one_used_or_none nothing f (CALL c) = inr (c, by_CALL, refl)
one_used_or_none nothing f (REPEAT r c) = inr (c, by_REPEAT, refl)

line_length_agrees : (f g : ℕ → ℕ) (l : Line) → AgreeOn f g l → line_length f l ≡ line_length g l
unfolding line_length
line_length_agrees f g (INC r) same = refl
line_length_agrees f g (DEC r t) same = refl
line_length_agrees f g (GO_TO t) same = refl
line_length_agrees f g (CALL c) same = same c by_CALL
line_length_agrees f g (REPEAT r c) same = rw (same c by_REPEAT) refl

line_quote_agrees : (f g : ℕ → ℕ) (l : Line) → AgreeOn f g l → line_quote f l ≡ line_quote g l
unfolding line_quote
line_quote_agrees f g (INC r) same = refl
line_quote_agrees f g (DEC r t) same = refl
line_quote_agrees f g (GO_TO t) same = refl
line_quote_agrees f g (CALL c) same = same c by_CALL
line_quote_agrees f g (REPEAT r c) same = rw (same c by_REPEAT) refl

sum_agrees :
    (of_line : (ℕ → ℕ) → Line → ℕ) → ((f g : ℕ → ℕ) (l : Line) → AgreeOn f g l → of_line f l ≡ of_line g l)
    → (f g : ℕ → ℕ) (ls : List Line) → AgreeOnAll f g ls → sum_of (of_line f) ls ≡ sum_of (of_line g) ls
unfolding sum_of
sum_agrees of_line agrees f g [] same = refl
sum_agrees of_line agrees f g (l ∷ ls) same = rw (agrees f g l (on_the_first same), sum_agrees of_line agrees f g ls (on_the_rest same)) refl

deepest_agrees : {f g : ℕ → ℕ} (ls : List Line) → AgreeOnAll f g ls → deepest f ls ≡ deepest g ls
unfolding deepest
deepest_agrees [] same = refl
deepest_agrees (l ∷ ls) same = rw (used_agrees 0 l (on_the_first same), deepest_agrees ls (on_the_rest same)) refl

some_line_agrees : (such : Line → Bool) {f g : ℕ → Bool} (ls : List Line) → AgreeOnAll f g ls → some_line such f ls ≡ some_line such g ls
unfolding some_line
some_line_agrees such [] same = refl
some_line_agrees such (l ∷ ls) same = rw (used_agrees false l (on_the_first same), some_line_agrees such ls (on_the_rest same)) refl

line_steady_agrees :
    (bad : ℕ → ℕ → Bool) {f g : ℕ → Bool} (i : ℕ) (l : Line) → AgreeOn f g l → line_steady bad f i l ≡ line_steady bad g i l
unfolding line_steady
line_steady_agrees bad i (INC r) same = refl
line_steady_agrees bad i (DEC r t) same = refl
line_steady_agrees bad i (GO_TO t) same = refl
line_steady_agrees bad i (CALL c) same = same c by_CALL
line_steady_agrees bad i (REPEAT r c) same = rw (same c by_REPEAT) refl

lines_steady_agrees :
    (bad : ℕ → ℕ → Bool) {f g : ℕ → Bool} (i : ℕ) (ls : List Line) → AgreeOnAll f g ls → lines_steady bad f i ls ≡ lines_steady bad g i ls
unfolding lines_steady
lines_steady_agrees bad i [] same = refl
lines_steady_agrees bad i (l ∷ ls) same =
    rw (line_steady_agrees bad i l (on_the_first same), lines_steady_agrees bad (suc i) ls (on_the_rest same)) refl

copy_line_agrees :
    (book : Book) {f g : ℕ → ℕ → Program} (k b p : ℕ) (l : Line) → AgreeOn f g l → copy_line book f k b p l ≡ copy_line book g k b p l
unfolding copy_line
copy_line_agrees book k b p (INC r) same = refl
copy_line_agrees book k b p (DEC r t) same = refl
copy_line_agrees book k b p (GO_TO t) same = refl
copy_line_agrees book k b p (CALL c) same = rw (same c by_CALL) refl
copy_line_agrees book k b p (REPEAT r c) same = rw (same c by_REPEAT) refl

copy_lines_agrees :
    (book : Book) {f g : ℕ → ℕ → Program} (k b p : ℕ) (ls : List Line) → AgreeOnAll f g ls
    → copy_lines book f k b p ls ≡ copy_lines book g k b p ls
unfolding copy_lines
copy_lines_agrees book k b p [] same = refl
copy_lines_agrees book k b p (l ∷ ls) same =
    let next = p + line_length (flat_length book) l in
    rw (copy_line_agrees book k b p l (on_the_first same), copy_lines_agrees book k b next ls (on_the_rest same)) refl

come_to_agrees :
    {f g : ℕ → List OpenedBy → Place → Place} (k i : ℕ) (ls : List Line) (around : List OpenedBy) (after : Place) → AgreeOnAll f g ls
    → come_to f k i ls around after ≡ come_to g k i ls around after
unfolding come_to
come_to_agrees k i [] around after same = refl
come_to_agrees k i (INC r ∷ ls) around after same = refl
come_to_agrees k i (DEC r t ∷ ls) around after same = refl
come_to_agrees k i (GO_TO t ∷ ls) around after same = refl
come_to_agrees k i (CALL c ∷ ls) around after same =
    rw (on_the_first same c by_CALL, come_to_agrees k (suc i) ls around after (on_the_rest same)) refl
come_to_agrees k i (REPEAT r c ∷ ls) around after same = refl

-- ---- each by its rule, for every book whose callees lie below their callers

module _ (book : Book) (ok : CalleesBelow book) where
  on_a_routine : {A : Type 0} {f g : ℕ → A} (k : ℕ) → ((c : ℕ) → c < k → f c ≡ g c) → AgreeOnAll f g (routine book k)
  unfolding CalleesBelow
  on_a_routine k same i l rest e c u = same c (ok k c (record { at_line = i; line = l; rest = rest; stands = e; line_uses = u }))

  -- .. a routine the sum of its lines.
  pub flat_length_by_the_rule : (k : ℕ) → flat_length book k ≡ length_by book (flat_length book) k
  unfolding flat_length length_by
  flat_length_by_the_rule =
      said_by_the_rule 0 (length_by book) (λ f g k same. sum_agrees line_length line_length_agrees f g (routine book k) (on_a_routine k same))

  -- the copy of a routine has the copies of its lines one after another
  pub copy_by_the_rule : (k : ℕ) → copy book k ≡ copy_by book (copy book) k
  unfolding copy copy_by
  copy_by_the_rule =
      said_by_the_rule (λ b. []) (copy_by book)
      (λ f g k same. fun_ext (λ b. copy_lines_agrees book k b b (routine book k) (on_a_routine k same)))

  pub depth_by_the_rule : (k : ℕ) → depth book k ≡ depth_by book (depth book) k
  unfolding depth depth_by
  depth_by_the_rule =
      said_by_the_rule 0 (depth_by book) (λ f g k same. rw (deepest_agrees (routine book k) (on_a_routine k same)) refl)

  -- entering a routine is coming to its first line
  pub enter_by_the_rule : (k : ℕ) → enter book k ≡ enter_by book (enter book) k
  unfolding enter enter_by
  enter_by_the_rule =
      said_by_the_rule (λ around after. after) (enter_by book)
      (λ f g k same. fun_ext (λ around. fun_ext (λ after. come_to_agrees k 0 (routine book k) around after (on_a_routine k same))))

  -- .. in the repeated routine or in any routine used under it.
  pub in_or_under_by_the_rule : (such : Line → Bool) (k : ℕ) → in_or_under book such k ≡ in_or_under_by book such (in_or_under book such) k
  unfolding in_or_under in_or_under_by
  in_or_under_by_the_rule such =
      said_by_the_rule false (in_or_under_by book such) (λ f g k same. some_line_agrees such (routine book k) (on_a_routine k same))

  -- A routine is steady if its lines are, and a line that calls is steady if the routine is.
  pub steady_by_the_rule :
      (bad : ℕ → ℕ → Bool) (k : ℕ)
      → from_the_lowest_up true (steady_by book bad) k ≡ steady_by book bad (from_the_lowest_up true (steady_by book bad)) k
  unfolding steady_by
  steady_by_the_rule bad =
      said_by_the_rule true (steady_by book bad) (λ f g k same. lines_steady_agrees bad 0 (routine book k) (on_a_routine k same))

  -- The quote: .. a routine the sum of its lines.
  pub quote_by_the_rule : (k : ℕ) → quote book k ≡ quote_by book (quote book) k
  unfolding quote quote_by
  quote_by_the_rule =
      said_by_the_rule 0 (quote_by book) (λ f g k same. sum_agrees line_quote line_quote_agrees f g (routine book k) (on_a_routine k same))
