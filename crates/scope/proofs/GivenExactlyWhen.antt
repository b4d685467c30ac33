-- A book is refused with one of 1 to 10 and its place exactly when the table of document 01 says so, and taken when none of them is wrong.
-- Each test tells the table's words, a row of tests is taken apart test by test, and routines lie in order. Assumes nothing.
use Prim.Native.Nat.{ℕ, zero, suc, ◌+◌, ◌<◌, ◌≤◌}
use native.Mathlib.Omega.{arith}
use mathlib.Core.Path.{◌≡◌, ◌∙◌, ap, subst}
use mathlib.Core.Logic.{◌↔◌, ⊎_elim}
use mathlib.Core.List.{List}
use Rattle.scope.specs.Refusals.{Refusal, pass, refuse, first}
use Rattle.scope.specs.Book.{routines, header_test, header_verdict, first_line, count, first_line_due, entry_verdict, table_verdict, line_test, line_number, fields_in, line_verdict, routine_verdict, lines_verdict, book_verdict, Taken}
use Rattle.scope.specs.Given.{WrongEntry, WrongEnd, GoodIn, GoodBook, PastShort, PastFormat, PastCounts, PastOffsets, PastLength, PastEntries, PastRoutine, ComesTo, PastKind, PastRegister, PastTarget, Given, gives_SHORT, gives_FORMAT, gives_COUNTS, gives_OFFSETS, gives_LENGTH, gives_ROUTINE, gives_ROUTINE_last, gives_KIND, gives_REGISTER, gives_TARGET, gives_CALLEE}
use Rattle.scope.proofs.Verdicts.{one_holds, else_holds, below_tells, is_not_tells, pass_is_no_refusal, refuses, goes_on, which_refuses, finds_no_fault, then_goes_on, then_refuses, which_then_refuses, then_passes, first_passes, first_hit, first_refuses}
use Rattle.scope.proofs.Tests.{short_tells, format_tells, counts_tells, offsets_tells, length_tells, entry_tells, end_tells, kind_tells, register_tells, target_tells, callee_tells}

-- ---- the header

header_gives : (b : List ℕ) (x : Refusal) → header_verdict b ≡ refuse x → Given b x
unfolding header_verdict header_test PastShort PastFormat PastCounts PastOffsets
header_gives b x =
    which_refuses (Given b) (short_tells b) gives_SHORT λ s.
    which_refuses (Given b) (format_tells b) (gives_FORMAT s) λ f.
    which_refuses (Given b) (counts_tells b) (gives_COUNTS (s, f)) λ c.
    which_refuses (Given b) (offsets_tells b) (gives_OFFSETS ((s, f), c)) λ o.
    which_refuses (Given b) (length_tells b) (gives_LENGTH (((s, f), c), o)) λ l e. absurd (pass_is_no_refusal e)

pub past_the_header : (b : List ℕ) → header_verdict b ≡ pass → PastLength b
unfolding header_verdict header_test PastShort PastFormat PastCounts PastOffsets PastLength
past_the_header b e =
    let s = finds_no_fault _ (short_tells b) e in
    let f = finds_no_fault _ (format_tells b) s.1 in
    let c = finds_no_fault _ (counts_tells b) f.1 in
    let o = finds_no_fault _ (offsets_tells b) c.1 in
    let l = finds_no_fault _ (length_tells b) o.1 in
    ((((s.0, f.0), c.0), o.0), l.0)

header_passes : (b : List ℕ) → PastLength b → header_verdict b ≡ pass
unfolding header_verdict header_test PastShort PastFormat PastCounts PastOffsets PastLength
header_passes b p =
    let o = p.0 in
    let c = o.0 in
    goes_on _ _ (short_tells b) c.0.0
    ∙ goes_on _ _ (format_tells b) c.0.1
    ∙ goes_on _ _ (counts_tells b) c.1
    ∙ goes_on _ _ (offsets_tells b) o.1
    ∙ goes_on _ _ (length_tells b) p.1

-- ---- the routine table

entry_passes : (b : List ℕ) (r : ℕ) → (entry_verdict b r ≡ pass) ↔ (¬ WrongEntry b r)
unfolding entry_verdict
entry_passes b r = (λ e. (finds_no_fault _ (entry_tells b r) e).0, goes_on _ _ (entry_tells b r))

entries_pass : (b : List ℕ) (n : ℕ) → (first (entry_verdict b) n ≡ pass) ↔ ((q : ℕ) → q < n → ¬ WrongEntry b q)
entries_pass b n =
    let f = first_passes (entry_verdict b) n in
    (λ e q l. (entry_passes b q).0 (f.0 e q l), λ right. f.1 (λ q l. (entry_passes b q).1 (right q l)))

table_gives : (b : List ℕ) (x : Refusal) → PastLength b → table_verdict b ≡ refuse x → Given b x
unfolding table_verdict entry_verdict PastEntries
table_gives b x h e =
    ⊎_elim (λ f.
    let w = (first_refuses (entry_verdict b) (routines b) x).0 f in
    let right : (q : ℕ) → q < w.at → ¬ WrongEntry b q = λ q l. (entry_passes b q).0 (w.all_before_pass q l) in
    which_refuses (Given b) (entry_tells b w.at) (gives_ROUTINE w.at (h, right) w.within)
    (λ n p. absurd (pass_is_no_refusal p)) w.is_refused)
    (λ f.
    let right = (entries_pass b (routines b)).0 f.0 in
    which_refuses (Given b) (end_tells b) (gives_ROUTINE_last (h, right)) (λ n p. absurd (pass_is_no_refusal p)) f.1)
    (which_then_refuses (first (entry_verdict b) (routines b)) e)

pub table_passes : (b : List ℕ) → (table_verdict b ≡ pass) ↔ (((q : ℕ) → q < routines b → ¬ WrongEntry b q) × (¬ WrongEnd b))
unfolding table_verdict
table_passes b =
    let f = entries_pass b (routines b) in (
      λ e.
          let t = then_passes (first (entry_verdict b) (routines b)) e in
          (f.0 t.0, (finds_no_fault _ (end_tells b) t.1).0),
      λ t. then_goes_on _ (f.1 t.0) ∙ goes_on _ _ (end_tells b) t.1,
    )

-- A routine ends where or before any later one starts.
pub routines_in_order : (b : List ℕ) → ((q : ℕ) → q < routines b → ¬ WrongEntry b q) → (r q : ℕ) → r < q → q < routines b
    → first_line b r + count b r ≤ first_line b q
unfolding first_line_due WrongEntry
routines_in_order b right r zero l h = absurd (omega arith)
routines_in_order b right r (suc q) l h =
    let due = else_holds (is_not_tells (first_line b (suc q)) (first_line b q + count b q)) (right (suc q) h) in
    ⊎_elim (λ (s : r < q). omega (arith, routines_in_order b right r q s (omega arith), due)) (λ (s : q ≤ r).
    let same : q ≡ r = omega arith in
    omega (arith, due, ap (λ i. first_line b i + count b i) same)) (one_holds (below_tells r q))

-- ---- a line

line_gives : (b : List ℕ) (r j : ℕ) (x : Refusal) → ComesTo b r j → line_verdict b r j ≡ refuse x → Given b x
unfolding line_verdict line_test PastKind PastRegister PastTarget
line_gives b r j x h =
    let f = fields_in b r j in
    which_refuses (Given b) (kind_tells f) (gives_KIND r j h) λ k.
    which_refuses (Given b) (register_tells f) (gives_REGISTER r j (h, k)) λ g.
    which_refuses (Given b) (target_tells f (count b r)) (gives_TARGET r j ((h, k), g)) λ t.
    which_refuses (Given b) (callee_tells f r) (gives_CALLEE r j (((h, k), g), t)) λ c e. absurd (pass_is_no_refusal e)

line_passes : (b : List ℕ) (r j : ℕ) → (line_verdict b r j ≡ pass) ↔ GoodIn b r j
unfolding line_verdict line_test GoodIn
line_passes b r j =
    let f = fields_in b r j in (
      λ e.
          let k = finds_no_fault _ (kind_tells f) e in
          let g = finds_no_fault _ (register_tells f) k.1 in
          let t = finds_no_fault _ (target_tells f (count b r)) g.1 in
          let c = finds_no_fault _ (callee_tells f r) t.1 in
          record { kind_right = k.0; register_right = g.0; target_right = t.0; callee_right = c.0 },
      λ l.
          goes_on _ _ (kind_tells f) l.kind_right
          ∙ goes_on _ _ (register_tells f) l.register_right
          ∙ goes_on _ _ (target_tells f (count b r)) l.target_right
          ∙ goes_on _ _ (callee_tells f r) l.callee_right,
    )

-- ---- the lowest bad line

routine_passes : (b : List ℕ) (r : ℕ) → (routine_verdict b r ≡ pass) ↔ ((j : ℕ) → j < count b r → GoodIn b r j)
unfolding routine_verdict
routine_passes b r =
    let f = first_passes (line_verdict b r) (count b r) in
    (λ e j l. (line_passes b r j).0 (f.0 e j l), λ good. f.1 (λ j l. (line_passes b r j).1 (good j l)))

lines_pass : (b : List ℕ) → (lines_verdict b ≡ pass) ↔ ((r j : ℕ) → r < routines b → j < count b r → GoodIn b r j)
unfolding lines_verdict
lines_pass b =
    let f = first_passes (routine_verdict b) (routines b) in
    (λ e r j h. (routine_passes b r).0 (f.0 e r h) j, λ good. f.1 (λ r h. (routine_passes b r).1 (λ j. good r j h)))

lower_lines_are_good : (b : List ℕ) → PastRoutine b → (r j : ℕ) → j < count b r
    → ((q : ℕ) → q < r → routine_verdict b q ≡ pass) → ((i : ℕ) → i < j → line_verdict b r i ≡ pass)
    → (q i : ℕ) → q < routines b → i < count b q → line_number b q i < line_number b r j → GoodIn b q i
unfolding line_number PastRoutine PastEntries
lower_lines_are_good b p r j l before above q i h g lower =
    ⊎_elim (λ (s : q < r). (routine_passes b q).0 (before q s) i g)
    (λ (s : r ≤ q). ⊎_elim (λ (t : r < q). absurd (omega (arith, routines_in_order b p.0.1 r q t h))) (λ (t : q ≤ r).
    let same : r ≡ q = omega arith in
    (line_passes b q i).0 (subst (λ k. line_verdict b k i ≡ pass) same (above i (omega (arith, ap (first_line b) same))))) (one_holds (below_tells r q)))
    (one_holds (below_tells q r))

lines_give : (b : List ℕ) (x : Refusal) → PastRoutine b → lines_verdict b ≡ refuse x → Given b x
unfolding lines_verdict routine_verdict
lines_give b x p e =
    let R = (first_refuses (routine_verdict b) (routines b) x).0 e in
    let J = (first_refuses (line_verdict b R.at) (count b R.at) x).0 R.is_refused in
    line_gives b R.at J.at x (record {
      past_ROUTINE = p;
      in_the_book = R.within;
      in_the_routine = J.within;
      lower_lines_good = lower_lines_are_good b p R.at J.at J.within R.all_before_pass J.all_before_pass;
    }) J.is_refused

comes_to_line : (b : List ℕ) (r j : ℕ) (x : Refusal) → ComesTo b r j → line_verdict b r j ≡ refuse x → lines_verdict b ≡ refuse x
unfolding lines_verdict routine_verdict line_number PastRoutine PastEntries
comes_to_line b r j x h e =
    let order = routines_in_order b h.past_ROUTINE.0.1 in
    let good = h.lower_lines_good in
    (first_refuses (routine_verdict b) (routines b) x).1 (record {
      at = r;
      within = h.in_the_book;
      is_refused = (first_refuses (line_verdict b r) (count b r) x).1 (record {
        at = j;
        within = h.in_the_routine;
        is_refused = e;
        all_before_pass = λ i l. (line_passes b r i).1 (good r i h.in_the_book (omega (arith, h.in_the_routine)) (omega arith));
      });
      all_before_pass = λ q l. (routine_passes b q).1 (λ i g.
          good q i (omega (arith, h.in_the_book)) g (omega (arith, order q r l h.in_the_book)));
    })

-- ---- the book

book_gives : (b : List ℕ) (x : Refusal) → book_verdict b ≡ refuse x → Given b x
unfolding book_verdict PastRoutine PastEntries
book_gives b x e =
    ⊎_elim (header_gives b x) (λ f.
    let h = past_the_header b f.0 in
    ⊎_elim (table_gives b x h) (λ g.
    let t = (table_passes b).0 g.0 in
    lines_give b x ((h, t.0), t.1) g.1) (which_then_refuses (table_verdict b) f.1)) (which_then_refuses (header_verdict b) e)

-- what is refused in the header, in the table and in the lines is what the book is refused with
in_the_header : (b : List ℕ) {x : Refusal} → header_verdict b ≡ refuse x → book_verdict b ≡ refuse x
unfolding book_verdict
in_the_header b e = then_refuses _ e

in_the_table : (b : List ℕ) {x : Refusal} → PastLength b → table_verdict b ≡ refuse x → book_verdict b ≡ refuse x
unfolding book_verdict
in_the_table b h e = then_goes_on _ (header_passes b h) ∙ then_refuses _ e

in_the_lines : (b : List ℕ) (r j : ℕ) {x : Refusal} → ComesTo b r j → line_verdict b r j ≡ refuse x → book_verdict b ≡ refuse x
unfolding book_verdict PastRoutine PastEntries
in_the_lines b r j h e =
    let p = h.past_ROUTINE in
    then_goes_on _ (header_passes b p.0.0) ∙ then_goes_on _ ((table_passes b).1 (p.0.1, p.1)) ∙ comes_to_line b r j _ h e

given_refuses : (b : List ℕ) (x : Refusal) → Given b x → book_verdict b ≡ refuse x
unfolding header_verdict header_test table_verdict entry_verdict line_verdict line_test PastShort PastFormat PastCounts PastOffsets PastLength PastEntries PastKind PastRegister PastTarget
given_refuses b x (gives_SHORT w) = in_the_header b (refuses _ _ (short_tells b) w)
given_refuses b x (gives_FORMAT s w) = in_the_header b (goes_on _ _ (short_tells b) s ∙ refuses _ _ (format_tells b) w)
given_refuses b x (gives_COUNTS f w) =
    in_the_header b (goes_on _ _ (short_tells b) f.0 ∙ goes_on _ _ (format_tells b) f.1 ∙ refuses _ _ (counts_tells b) w)
given_refuses b x (gives_OFFSETS c w) =
    in_the_header b
    (goes_on _ _ (short_tells b) c.0.0
    ∙ goes_on _ _ (format_tells b) c.0.1
    ∙ goes_on _ _ (counts_tells b) c.1
    ∙ refuses _ _ (offsets_tells b) w)
given_refuses b x (gives_LENGTH o w) =
    let c = o.0 in
    in_the_header b
    (goes_on _ _ (short_tells b) c.0.0
    ∙ goes_on _ _ (format_tells b) c.0.1
    ∙ goes_on _ _ (counts_tells b) c.1
    ∙ goes_on _ _ (offsets_tells b) o.1
    ∙ refuses _ _ (length_tells b) w)
given_refuses b x (gives_ROUTINE r h l w) =
    in_the_table b h.0
    (then_refuses _ (first_hit (entry_verdict b) (routines b) r l ((entries_pass b r).1 h.1) (refuses _ _ (entry_tells b r) w)))
given_refuses b x (gives_ROUTINE_last h w) =
    in_the_table b h.0 (then_goes_on _ ((entries_pass b (routines b)).1 h.1) ∙ refuses _ _ (end_tells b) w)
given_refuses b x (gives_KIND r j h w) = in_the_lines b r j h (refuses _ _ (kind_tells (fields_in b r j)) w)
given_refuses b x (gives_REGISTER r j k w) =
    let f = fields_in b r j in
    in_the_lines b r j k.0 (goes_on _ _ (kind_tells f) k.1 ∙ refuses _ _ (register_tells f) w)
given_refuses b x (gives_TARGET r j g w) =
    let f = fields_in b r j in
    in_the_lines b r j g.0.0
    (goes_on _ _ (kind_tells f) g.0.1 ∙ goes_on _ _ (register_tells f) g.1 ∙ refuses _ _ (target_tells f (count b r)) w)
given_refuses b x (gives_CALLEE r j t w) =
    let f = fields_in b r j in
    let g = t.0 in
    in_the_lines b r j g.0.0
    (goes_on _ _ (kind_tells f) g.0.1
    ∙ goes_on _ _ (register_tells f) g.1
    ∙ goes_on _ _ (target_tells f (count b r)) t.1
    ∙ refuses _ _ (callee_tells f r) w)

-- 1 to 10: each is given, at its place, exactly when the table and "Order" say so.
pub given_exactly_when : (b : List ℕ) (x : Refusal) → (book_verdict b ≡ refuse x) ↔ Given b x
given_exactly_when b x = (book_gives b x, given_refuses b x)

good_if_taken : (b : List ℕ) → Taken b → GoodBook b
unfolding book_verdict PastShort PastFormat PastCounts PastOffsets PastLength
good_if_taken b e =
    let h = then_passes (header_verdict b) e in
    let t = then_passes (table_verdict b) h.1 in
    let l = past_the_header b h.0 in
    let o = l.0 in
    let c = o.0 in
    let right = (table_passes b).0 t.0 in
    record {
      not_short = c.0.0;
      format_right = c.0.1;
      counts_right = c.1;
      offsets_right = o.1;
      length_right = l.1;
      entries_right = right.0;
      end_right = right.1;
      lines_good = (lines_pass b).0 t.1;
    }

taken_if_good : (b : List ℕ) → GoodBook b → Taken b
unfolding book_verdict PastShort PastFormat PastCounts PastOffsets PastLength
taken_if_good b g =
    then_goes_on _ (header_passes b ((((g.not_short, g.format_right), g.counts_right), g.offsets_right), g.length_right))
    ∙ then_goes_on _ ((table_passes b).1 (g.entries_right, g.end_right))
    ∙ (lines_pass b).1 g.lines_good

-- A book is taken exactly when none of 1 to 10 is wrong with it.
pub taken_exactly_when : (b : List ℕ) → Taken b ↔ GoodBook b
taken_exactly_when b = (good_if_taken b, taken_if_good b)
