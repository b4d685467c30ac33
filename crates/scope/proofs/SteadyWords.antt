-- `named`, `raised` and `steady` say exactly what `SteadyWords` says in plain words, in every book whose callees lie below their callers.
-- A test on lines is the same said of each line, and a routine uses lower ones only, so each law is shown from the lowest routine up.
use Prim.Native.Nat.{ℕ, zero, suc, ◌+◌, ◌<◌}
use native.Mathlib.Omega.{arith}
use mathlib.Core.Bool.{Bool, true, false, not, false≢true}
use mathlib.Core.Path.{◌≡◌, refl, sym, ◌∙◌}
use mathlib.Core.Logic.{◌↔◌, ◌⊎◌, inl, inr, ⊎_elim}
use mathlib.Core.List.{List, [], ◌∷◌}
use lib.ListN.{drop}
use Rattle.scope.specs.Words.{◌and◌}
use Rattle.scope.specs.Book.{Line, INC, DEC, GO_TO, CALL, REPEAT, Book, routine, used, LineUses, by_CALL, by_REPEAT, Uses, CalleesBelow}
use Rattle.scope.specs.Quote.{names, some_line, in_or_under_by, in_or_under, named, line_steady, lines_steady, steady_by, steady}
use Rattle.scope.specs.Enough.{raises, raised, Raises, INC_raises, Raised}
use Rattle.scope.specs.Depth.{Opened, alone, around}
use Rattle.scope.specs.SteadyWords.{Names, INC_names, DEC_names, REPEAT_names, FoundInOrUnder, Named, SteadyRoutine, its_lines_are, SteadyLine, CALL_steady, DEC_steady, GO_TO_steady, REPEAT_steady, INC_steady}
use Rattle.scope.proofs.Lists.{nothing_stands}
use Rattle.scope.proofs.Verdicts.{exactly_tells, itself_tells, is_tells, above_tells, or_tells, and_tells, not_tells}
use Rattle.scope.proofs.Lowest.{used_is, in_or_under_by_the_rule, steady_by_the_rule}
use Rattle.scope.proofs.Steady.{uses_such_a_one, line_of_steady_lines}

-- ---- named, and raised, by a line

names_in_words : (j : ℕ) (l : Line) → names j l ≡ true → Names j l
unfolding names
names_in_words j (INC r) e = let z : r ≡ j = (is_tells r j).when_true.0 e in rw z INC_names
names_in_words j (DEC r t) e = let z : r ≡ j = (is_tells r j).when_true.0 e in rw z DEC_names
names_in_words j (GO_TO t) e = absurd (false≢true e)
names_in_words j (CALL c) e = absurd (false≢true e)
names_in_words j (REPEAT r c) e = let z : r ≡ j = (is_tells r j).when_true.0 e in rw z REPEAT_names

names_by_words : (j : ℕ) (l : Line) → Names j l → names j l ≡ true
unfolding names
names_by_words j (INC r) INC_names = (is_tells r r).when_true.1 refl
names_by_words j (DEC r t) DEC_names = (is_tells r r).when_true.1 refl
names_by_words j (GO_TO t) n = elim n [ ]
names_by_words j (CALL c) n = elim n [ ]
names_by_words j (REPEAT r c) REPEAT_names = (is_tells r r).when_true.1 refl

raises_in_words : (j : ℕ) (l : Line) → raises j l ≡ true → Raises j l
unfolding raises
raises_in_words j (INC r) e = let z : r ≡ j = (is_tells r j).when_true.0 e in rw z INC_raises
raises_in_words j (DEC r t) e = absurd (false≢true e)
raises_in_words j (GO_TO t) e = absurd (false≢true e)
raises_in_words j (CALL c) e = absurd (false≢true e)
raises_in_words j (REPEAT r c) e = absurd (false≢true e)

raises_by_words : (j : ℕ) (l : Line) → Raises j l → raises j l ≡ true
unfolding raises
raises_by_words j (INC r) INC_raises = (is_tells r r).when_true.1 refl
raises_by_words j (DEC r t) n = elim n [ ]
raises_by_words j (GO_TO t) n = elim n [ ]
raises_by_words j (CALL c) n = elim n [ ]
raises_by_words j (REPEAT r c) n = elim n [ ]

-- ---- found in or under a routine: by one of its lines, or under a routine that a line uses

module _ (such : Line → Bool) (f : ℕ → Bool) where
  -- one of the lines, where it stands: such a line, or one that uses a routine with such a line in it or under it
  record OneOf (ls : List Line) : Type 0 where
    at_line : ℕ
    line : Line
    rest : List Line
    stands : drop at_line ls ≡ line ∷ rest
    holds : (such line ≡ true) ⊎ (used false f line ≡ true)

  the_first_or_a_later :
      (l : Line) (ls : List Line)
      → (some_line such f (l ∷ ls) ≡ true) ↔ ((such l ≡ true) ⊎ (used false f l ≡ true) ⊎ (some_line such f ls ≡ true))
  unfolding some_line
  the_first_or_a_later l ls =
      (or_tells (itself_tells (such l)) (or_tells (itself_tells (used false f l)) (itself_tells (some_line such f ls)))).when_true

  one_of : (ls : List Line) → some_line such f ls ≡ true → OneOf ls
  unfolding some_line
  one_of [] e = absurd (false≢true e)
  one_of (l ∷ ls) e = ⊎_elim (λ h. first (inl h)) (⊎_elim (λ h. first (inr h)) (λ h. later (one_of ls h))) ((the_first_or_a_later l ls).0 e)
    where
      first : (such l ≡ true) ⊎ (used false f l ≡ true) → OneOf (l ∷ ls)
      first h = record { at_line = 0; line = l; rest = ls; stands = refl; holds = h }

      later : OneOf ls → OneOf (l ∷ ls)
      later o = record { at_line = suc o.at_line; line = o.line; rest = o.rest; stands = o.stands; holds = o.holds }

  by_one :
      (ls : List Line) (i : ℕ) {l : Line} {rest : List Line} → drop i ls ≡ l ∷ rest → (such l ≡ true) ⊎ (used false f l ≡ true)
      → some_line such f ls ≡ true
  by_one [] i e h = nothing_stands i e
  by_one (x ∷ ls) zero {l} e h =
      let z : x ≡ l = cc in
      rw z ((the_first_or_a_later l ls).1 (⊎_elim inl (λ g. inr (inl g)) h))
  by_one (x ∷ ls) (suc i) e h = (the_first_or_a_later x ls).1 (inr (inr (by_one ls i e h)))

-- What is found in or under a routine is found under those that use it.
deeper : {book : Book} {Such : Line → Type 0} {k c : ℕ} → Uses book k c → FoundInOrUnder book Such c → FoundInOrUnder book Such k
deeper u w =
    record {
      how_many = suc w.how_many;
      found_in = w.found_in;
      opened = around u w.opened;
      at_line = w.at_line;
      line = w.line;
      rest = w.rest;
      stands = w.stands;
      is_such = w.is_such;
    }

-- ---- a routine is steady if its lines are

all_are_steady :
    (bad : ℕ → ℕ → Bool) (f : ℕ → Bool) (n : ℕ) (ls : List Line)
    → ((i q : ℕ) (l : Line) (rest : List Line) → drop i ls ≡ l ∷ rest → q ≡ n + i → line_steady bad f q l ≡ true)
    → lines_steady bad f n ls ≡ true
unfolding lines_steady
all_are_steady bad f n [] h = refl
all_are_steady bad f n (x ∷ ls) h =
    (and_tells (itself_tells (line_steady bad f n x)) (itself_tells (lines_steady bad f (suc n) ls))).when_true.1
    (h 0 n x ls refl (omega arith), all_are_steady bad f (suc n) ls (λ i q l rest e a. h (suc i) q l rest e (omega arith)))

its_lines :
    {book : Book} {k : ℕ} → SteadyRoutine book k → (i : ℕ) (l : Line) (rest : List Line) → drop i (routine book k) ≡ l ∷ rest
    → SteadyLine book i l
its_lines (its_lines_are h) = h

-- ---- for every book whose callees lie below their callers

module _ (book : Book) (ok : CalleesBelow book) where
  module _ (such : Line → Bool) (Such : Line → Type 0) (says : (l : Line) → (such l ≡ true) ↔ Such l) where
    found_below : (n k : ℕ) → k < n → in_or_under book such k ≡ true → FoundInOrUnder book Such k
    unfolding in_or_under_by CalleesBelow
    found_below zero k h e = absurd (omega arith)
    found_below (suc n) k h e =
        go (λ c. found_below n c)
        (one_of such (in_or_under book such) (routine book k) (sym (in_or_under_by_the_rule book ok such k) ∙ e))
      where
        go :
            ((c : ℕ) → c < n → in_or_under book such c ≡ true → FoundInOrUnder book Such c)
            → OneOf such (in_or_under book such) (routine book k) → FoundInOrUnder book Such k
        go below o = ⊎_elim here under o.holds
          where
            here : such o.line ≡ true → FoundInOrUnder book Such k
            here g =
                record {
                  how_many = 1;
                  found_in = k;
                  opened = alone;
                  at_line = o.at_line;
                  line = o.line;
                  rest = o.rest;
                  stands = o.stands;
                  is_such = (says o.line).0 g;
                }

            under : used false (in_or_under book such) o.line ≡ true → FoundInOrUnder book Such k
            under g =
                let (c, u, t) = uses_such_a_one (in_or_under book such) o.line g in
                let uses : Uses book k c =
                record { at_line = o.at_line; line = o.line; rest = o.rest; stands = o.stands; line_uses = u } in
                deeper uses (below c (omega (arith, ok k c uses)) t)

    found_is_so :
        {a n c : ℕ} → Opened book a n c → (i : ℕ) {l : Line} {rest : List Line} → drop i (routine book c) ≡ l ∷ rest → such l ≡ true
        → in_or_under book such a ≡ true
    unfolding in_or_under_by
    found_is_so {a} alone i e s = in_or_under_by_the_rule book ok such a ∙ by_one such (in_or_under book such) (routine book a) i e (inl s)
    found_is_so {a} (around u o) i e s =
        in_or_under_by_the_rule book ok such a
        ∙ by_one such (in_or_under book such) (routine book a) u.at_line u.stands
        (inr (used_is false (in_or_under book such) u.line_uses ∙ found_is_so o i e s))

    -- .. in the .. routine or in any routine used under it.
    pub in_or_under_exactly : (k : ℕ) → (in_or_under book such k ≡ true) ↔ FoundInOrUnder book Such k
    in_or_under_exactly k =
        (found_below (suc k) k (omega arith), λ w. found_is_so w.opened w.at_line w.stands ((says w.line).1 w.is_such))

  -- .. named (by INC, DEC or REPEAT) in the .. routine or in any routine used under it.
  pub named_exactly : (j k : ℕ) → (named book j k ≡ true) ↔ Named book j k
  unfolding named Named
  named_exactly j = in_or_under_exactly (names j) (Names j) (λ l. (names_in_words j l, names_by_words j l))

  -- raised by INC there
  pub raised_exactly : (j k : ℕ) → (raised book j k ≡ true) ↔ Raised book j k
  unfolding raised Raised
  raised_exactly j = in_or_under_exactly (raises j) (Raises j) (λ l. (raises_in_words j l, raises_by_words j l))

  -- ---- steady

  -- The law holds of the routine that the line uses, if it uses one.
  abbrev ExactlyOfItsCallee : Line → Type 0
  ExactlyOfItsCallee l = (c : ℕ) → LineUses l c → (steady book c ≡ true) ↔ SteadyRoutine book c

  repeat_tells :
      (r c : ℕ) → (steady book c ≡ true) ↔ SteadyRoutine book c
      → (steady book c and not (named book r c) ≡ true) ↔ (SteadyRoutine book c × ¬ Named book r c)
  repeat_tells r c i = (and_tells (exactly_tells i) (not_tells (exactly_tells (named_exactly r c)))).when_true

  line_in_words :
      (i : ℕ) (l : Line) → ExactlyOfItsCallee l → line_steady (named book) (steady book) i l ≡ true → SteadyLine book i l
  unfolding line_steady
  line_in_words i (INC r) callee e = INC_steady
  line_in_words i (DEC r t) callee e = DEC_steady ((above_tells t i).when_true.0 e)
  line_in_words i (GO_TO t) callee e = GO_TO_steady ((above_tells t i).when_true.0 e)
  line_in_words i (CALL c) callee e = CALL_steady ((callee c by_CALL).0 e)
  line_in_words i (REPEAT r c) callee e =
      let (s, n) = (repeat_tells r c (callee c by_REPEAT)).0 e in
      REPEAT_steady s n

  line_by_words :
      (i : ℕ) (l : Line) → ExactlyOfItsCallee l → SteadyLine book i l → line_steady (named book) (steady book) i l ≡ true
  unfolding line_steady
  line_by_words i (INC r) callee INC_steady = refl
  line_by_words i (DEC r t) callee (DEC_steady h) = (above_tells t i).when_true.1 h
  line_by_words i (GO_TO t) callee (GO_TO_steady h) = (above_tells t i).when_true.1 h
  line_by_words i (CALL c) callee (CALL_steady s) = (callee c by_CALL).1 s
  line_by_words i (REPEAT r c) callee (REPEAT_steady s n) = (repeat_tells r c (callee c by_REPEAT)).1 (s, n)

  steady_by_its_lines : (k : ℕ) → steady book k ≡ lines_steady (named book) (steady book) 0 (routine book k)
  unfolding steady steady_by
  steady_by_its_lines = steady_by_the_rule book ok (named book)

  exactly_below : (n k : ℕ) → k < n → (steady book k ≡ true) ↔ SteadyRoutine book k
  unfolding CalleesBelow
  exactly_below zero k h = absurd (omega arith)
  exactly_below (suc n) k h = go (λ c. exactly_below n c)
    where
      go : ((c : ℕ) → c < n → (steady book c ≡ true) ↔ SteadyRoutine book c) → (steady book k ≡ true) ↔ SteadyRoutine book k
      go below = (λ e. its_lines_are (in_words_of e), by_words_of)
        where
          callee : (i : ℕ) (l : Line) (rest : List Line) → drop i (routine book k) ≡ l ∷ rest → ExactlyOfItsCallee l
          callee i l rest d c u =
              below c (omega (arith, ok k c (record { at_line = i; line = l; rest = rest; stands = d; line_uses = u })))

          in_words_of :
              steady book k ≡ true → (i : ℕ) (l : Line) (rest : List Line) → drop i (routine book k) ≡ l ∷ rest → SteadyLine book i l
          in_words_of e i l rest d =
              line_in_words i l (callee i l rest d)
              (line_of_steady_lines (named book) (steady book) 0 i i (routine book k) (sym (steady_by_its_lines k) ∙ e) d (omega arith))

          by_words_of : SteadyRoutine book k → steady book k ≡ true
          by_words_of s =
              steady_by_its_lines k
              ∙ all_are_steady (named book) (steady book) 0 (routine book k) (λ i q l rest d a.
              let z : q ≡ i = omega arith in
              rw z (line_by_words i l (callee i l rest d) (its_lines s i l rest d)))

  -- A routine is steady if its lines are, and a line that calls is steady if the routine is; and so on, a rule for each sentence.
  pub steady_exactly : (k : ℕ) → (steady book k ≡ true) ↔ SteadyRoutine book k
  steady_exactly k = exactly_below (suc k) k (omega arith)
