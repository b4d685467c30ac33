-- What steadiness gives: its lines are steady, its callees are, and what a routine does not raise, those under it do not raise either.
-- A steady routine's register rule is a parameter; where less is wrong, more is steady, and what is raised is named.
use Prim.Native.Nat.{ℕ, zero, suc, ◌+◌}
use native.Mathlib.Omega.{arith}
use mathlib.Core.Bool.{Bool, true, false, not, false≢true}
use mathlib.Core.Path.{◌≡◌, refl, sym, ◌∙◌}
use mathlib.Core.Logic.{⊎_elim}
use mathlib.Core.List.{List, [], ◌∷◌}
use lib.ListN.{drop}
use borrow.Author.Tests.{not-true}
use Rattle.scope.specs.Words.{if, ◌and◌, ◌or◌}
use Rattle.scope.specs.Book.{Line, INC, DEC, GO_TO, CALL, REPEAT, Book, routine, used, LineUses, CalleesBelow, said_below, from_the_lowest_up}
use Rattle.scope.specs.Quote.{names, some_line, in_or_under_by, in_or_under, named, line_steady, lines_steady, steady_by, steady}
use Rattle.scope.specs.Enough.{raises, raised, steady_where_not_raised}
use Rattle.scope.proofs.Lists.{nothing_stands}
use Rattle.scope.proofs.Verdicts.{itself_tells, or_tells, and_tells}
use Rattle.scope.proofs.Lowest.{used_is, one_used_or_none, in_or_under_by_the_rule, steady_by_the_rule}

-- ---- "and", "or"

both_true : (s t : Bool) → s and t ≡ true → (s ≡ true) × (t ≡ true)
both_true s t = (and_tells (itself_tells s) (itself_tells t)).when_true.0

both_false : (s t : Bool) → s or t ≡ false → (s ≡ false) × (t ≡ false)
both_false s t = (or_tells (itself_tells s) (itself_tells t)).when_false.0

-- where more holds of the parts, more holds of the whole
and_more : (s t s' t' : Bool) → (s ≡ true → s' ≡ true) → (t ≡ true → t' ≡ true) → s and t ≡ true → s' and t' ≡ true
unfolding if
and_more s t s' t' f g e = rw (f (both_true s t e).0, g (both_true s t e).1) refl

or_more : (s t s' t' : Bool) → (s ≡ true → s' ≡ true) → (t ≡ true → t' ≡ true) → s or t ≡ true → s' or t' ≡ true
unfolding if
or_more true t s' t' f g e = rw (f refl) refl
or_more false t true t' f g e = refl
or_more false t false t' f g e = g e

not_more : (s t : Bool) → (t ≡ true → s ≡ true) → not s ≡ true → not t ≡ true
not_more s true f e = let h : s ≡ true = f refl in rw h at e
not_more s false f e = refl

-- ---- of each line

-- A routine is steady if its lines are.
pub line_of_steady_lines :
    (bad : ℕ → ℕ → Bool) (f : ℕ → Bool) {l : Line} {rest : List Line} (n i q : ℕ) (ls : List Line) → lines_steady bad f n ls ≡ true
    → drop i ls ≡ l ∷ rest → q ≡ n + i → line_steady bad f q l ≡ true
unfolding lines_steady
line_of_steady_lines bad f n i q [] s e a = nothing_stands i e
line_of_steady_lines bad f {l} n zero q (x ∷ ls) s e a =
    let z : x ≡ l = cc in
    let w : q ≡ n = omega arith in
    rw (w, sym z) (both_true (line_steady bad f n x) (lines_steady bad f (suc n) ls) s).0
line_of_steady_lines bad f n (suc i) q (x ∷ ls) s e a =
    line_of_steady_lines bad f (suc n) i q ls (both_true (line_steady bad f n x) (lines_steady bad f (suc n) ls) s).1 e (omega arith)

-- Where no line is such, none is by itself, and none uses a routine that has one in it or under it.
no_line_is_such :
    (such : Line → Bool) (f : ℕ → Bool) {l : Line} {rest : List Line} (i : ℕ) (ls : List Line) → some_line such f ls ≡ false
    → drop i ls ≡ l ∷ rest → such l or used false f l ≡ false
unfolding some_line if
no_line_is_such such f i [] n e = nothing_stands i e
no_line_is_such such f {l} zero (x ∷ ls) n e =
    let z : x ≡ l = cc in
    let none = both_false (such x) (used false f x or some_line such f ls) n in
    rw (sym z, none.0) (both_false (used false f x) (some_line such f ls) none.1).0
no_line_is_such such f (suc i) (x ∷ ls) n e =
    let none = both_false (such x) (used false f x or some_line such f ls) n in
    no_line_is_such such f i ls (both_false (used false f x) (some_line such f ls) none.1).1 e

-- A line that uses such a routine uses one.
pub uses_such_a_one : (f : ℕ → Bool) (l : Line) → used false f l ≡ true → (c : ℕ) × LineUses l c × (f c ≡ true)
uses_such_a_one f l e =
    ⊎_elim (λ none. absurd (false≢true (sym none ∙ e))) (λ u. (u.0, u.1, sym u.2 ∙ e)) (one_used_or_none false f l)

-- ---- more is steady where less is wrong

some_line_more :
    (such such' : Line → Bool) (f f' : ℕ → Bool) → ((l : Line) → such l ≡ true → such' l ≡ true) → ((c : ℕ) → f c ≡ true → f' c ≡ true)
    → (ls : List Line) → some_line such f ls ≡ true → some_line such' f' ls ≡ true
unfolding some_line
some_line_more such such' f f' m n [] e = e
some_line_more such such' f f' m n (l ∷ ls) e =
    or_more (such l) (used false f l or some_line such f ls) (such' l) (used false f' l or some_line such' f' ls) (m l)
    (or_more (used false f l) (some_line such f ls) (used false f' l) (some_line such' f' ls) (used_more l)
    (some_line_more such such' f f' m n ls)) e
  where
    used_more : (l : Line) → used false f l ≡ true → used false f' l ≡ true
    used_more l h =
        let (c, u, t) = uses_such_a_one f l h in
        used_is false f' u ∙ n c t

line_steady_more :
    (bad bad' : ℕ → ℕ → Bool) (f f' : ℕ → Bool) → ((j c : ℕ) → bad' j c ≡ true → bad j c ≡ true) → ((c : ℕ) → f c ≡ true → f' c ≡ true)
    → (i : ℕ) (l : Line) → line_steady bad f i l ≡ true → line_steady bad' f' i l ≡ true
unfolding line_steady
line_steady_more bad bad' f f' less m i (INC r) e = e
line_steady_more bad bad' f f' less m i (DEC r t) e = e
line_steady_more bad bad' f f' less m i (GO_TO t) e = e
line_steady_more bad bad' f f' less m i (CALL c) e = m c e
line_steady_more bad bad' f f' less m i (REPEAT r c) e =
    and_more (f c) (not (bad r c)) (f' c) (not (bad' r c)) (m c) (not_more (bad r c) (bad' r c) (less r c)) e

lines_steady_more :
    (bad bad' : ℕ → ℕ → Bool) (f f' : ℕ → Bool) → ((j c : ℕ) → bad' j c ≡ true → bad j c ≡ true) → ((c : ℕ) → f c ≡ true → f' c ≡ true)
    → (i : ℕ) (ls : List Line) → lines_steady bad f i ls ≡ true → lines_steady bad' f' i ls ≡ true
unfolding lines_steady
lines_steady_more bad bad' f f' less m i [] e = e
lines_steady_more bad bad' f f' less m i (l ∷ ls) e =
    and_more (line_steady bad f i l) (lines_steady bad f (suc i) ls) (line_steady bad' f' i l) (lines_steady bad' f' (suc i) ls)
    (line_steady_more bad bad' f f' less m i l) (lines_steady_more bad bad' f f' less m (suc i) ls) e

module _ (book : Book) where
  in_or_under_more :
      (such such' : Line → Bool) → ((l : Line) → such l ≡ true → such' l ≡ true)
      → (n k : ℕ) → said_below false (in_or_under_by book such) n k ≡ true → said_below false (in_or_under_by book such') n k ≡ true
  unfolding said_below in_or_under_by
  in_or_under_more such such' m zero k e = e
  in_or_under_more such such' m (suc n) k e =
      some_line_more such such' (said_below false (in_or_under_by book such) n) (said_below false (in_or_under_by book such') n) m
      (in_or_under_more such such' m n) (routine book k) e

  steady_more :
      (bad bad' : ℕ → ℕ → Bool) → ((j c : ℕ) → bad' j c ≡ true → bad j c ≡ true)
      → (n k : ℕ) → said_below true (steady_by book bad) n k ≡ true → said_below true (steady_by book bad') n k ≡ true
  unfolding said_below steady_by
  steady_more bad bad' less zero k e = e
  steady_more bad bad' less (suc n) k e =
      lines_steady_more bad bad' (said_below true (steady_by book bad) n) (said_below true (steady_by book bad') n) less
      (steady_more bad bad' less n) 0 (routine book k) e

  raises_names : (j : ℕ) (l : Line) → raises j l ≡ true → names j l ≡ true
  unfolding raises names
  raises_names j (INC r) e = e
  raises_names j (DEC r t) e = absurd (false≢true e)
  raises_names j (GO_TO t) e = e
  raises_names j (CALL c) e = e
  raises_names j (REPEAT r c) e = absurd (false≢true e)

  raised_is_named : (j k : ℕ) → raised book j k ≡ true → named book j k ≡ true
  unfolding raised named in_or_under from_the_lowest_up
  raised_is_named j k e = in_or_under_more (raises j) (names j) (raises_names j) (suc k) k e

  -- Document 01's steady routines are among those of the wider class.
  pub steady_is_steady_where_not_raised : (k : ℕ) → steady book k ≡ true → steady_where_not_raised book k ≡ true
  unfolding steady steady_where_not_raised from_the_lowest_up
  steady_is_steady_where_not_raised k e = steady_more (named book) (raised book) raised_is_named (suc k) k e

-- ---- of the lines of a routine, for every book whose callees lie below their callers

module _ (book : Book) (ok : CalleesBelow book) where
  pub line_is_steady :
      {l : Line} {rest : List Line} (k i : ℕ) → steady_where_not_raised book k ≡ true → drop i (routine book k) ≡ l ∷ rest
      → line_steady (raised book) (steady_where_not_raised book) i l ≡ true
  unfolding steady_where_not_raised steady_by
  line_is_steady k i s e =
      line_of_steady_lines (raised book) (steady_where_not_raised book) 0 i i (routine book k)
      (sym (steady_by_the_rule book ok (raised book) k) ∙ s) e (omega arith)

  -- .. and a line that calls is steady if the routine is. A REPEAT line also needs that its register is not raised there.
  pub called_is_steady :
      {c : ℕ} {rest : List Line} (k i : ℕ) → steady_where_not_raised book k ≡ true → drop i (routine book k) ≡ CALL c ∷ rest
      → steady_where_not_raised book c ≡ true
  unfolding line_steady
  called_is_steady k i s e = line_is_steady k i s e

  pub repeated_is_steady :
      {r c : ℕ} {rest : List Line} (k i : ℕ) → steady_where_not_raised book k ≡ true → drop i (routine book k) ≡ REPEAT r c ∷ rest
      → steady_where_not_raised book c ≡ true
  unfolding line_steady
  repeated_is_steady {r} {c} k i s e = (both_true (steady_where_not_raised book c) (not (raised book r c)) (line_is_steady k i s e)).0

  pub repeat_is_not_raised :
      {r c : ℕ} {rest : List Line} (k i : ℕ) → steady_where_not_raised book k ≡ true → drop i (routine book k) ≡ REPEAT r c ∷ rest
      → raised book r c ≡ false
  unfolding line_steady
  repeat_is_not_raised {r} {c} k i s e =
      not-true (raised book r c) (both_true (steady_where_not_raised book c) (not (raised book r c)) (line_is_steady k i s e)).1

  raised_nowhere :
      {l : Line} {rest : List Line} (j k i : ℕ) → raised book j k ≡ false → drop i (routine book k) ≡ l ∷ rest
      → raises j l or used false (raised book j) l ≡ false
  unfolding raised in_or_under_by
  raised_nowhere j k i n e =
      no_line_is_such (raises j) (raised book j) i (routine book k) (sym (in_or_under_by_the_rule book ok (raises j) k) ∙ n) e

  pub not_raised_here :
      {l : Line} {rest : List Line} (j k i : ℕ) → raised book j k ≡ false → drop i (routine book k) ≡ l ∷ rest → raises j l ≡ false
  not_raised_here {l} j k i n e = (both_false (raises j l) (used false (raised book j) l) (raised_nowhere j k i n e)).0

  pub not_raised_below :
      {l : Line} {rest : List Line} (j k i : ℕ) → raised book j k ≡ false → drop i (routine book k) ≡ l ∷ rest
      → used false (raised book j) l ≡ false
  not_raised_below {l} j k i n e = (both_false (raises j l) (used false (raised book j) l) (raised_nowhere j k i n e)).1
