-- What a taken book gives, in plain facts: its counts and length, its table in order, its lines; and the same of the book that it says.
-- Read off the tests that pass, in the words of the table; the decoded lines stand in lists by a rule. Assumes nothing.
use Prim.Native.Nat.{ℕ, zero, suc, ◌+◌, ◌<◌, ◌≤◌}
use native.Mathlib.Omega.{arith}
use mathlib.Core.Path.{◌≡◌, refl, sym, ◌∙◌, ap}
use mathlib.Core.Logic.{inl, inr, ⊎_elim}
use mathlib.Core.List.{List, [], ◌∷◌}
use lib.ListN.{length, take, drop, drop_of_length-le, get_or-eq_default}
use lib.Seq.{take_all}
use Rattle.scope.specs.Words.{if, listed}
use Rattle.scope.specs.Refusals.{pass}
use Rattle.scope.specs.Book.{the_format, header_bytes, format, routine_table, line_table, line_table_due, most_routines, most_lines, last_register, routines, lines, stated_length, length_due, first_line, count, first_line_due, LineFields, Line, INC, DEC, GO_TO, CALL, REPEAT, INC_kind, DEC_kind, GO_TO_kind, CALL_kind, REPEAT_kind, fields_of, line_of, fields_in, header_verdict, table_verdict, book_verdict, Taken, routine, routine_of, book_of, LineUses, by_CALL, by_REPEAT, CalleesBelow}
use Rattle.scope.specs.Given.{Short, PastShort, PastFormat, PastCounts, PastOffsets, PastLength, WrongFormat, WrongCounts, WrongOffsets, WrongLength, WrongEntry, WrongEnd, WrongKind, ZeroStands, WrongRegister, HasTarget, WrongTarget, HasCallee, WrongCallee, GoodLine, GoodIn}
use Rattle.scope.proofs.Verdicts.{one_holds, else_holds, above_tells, below_tells, not_below_tells, is_tells, is_not_tells, or_tells, either_way, then_passes}
use Rattle.scope.proofs.Lists.{length_listed, listed_at, listed_stands, listed_member}
use Rattle.scope.proofs.GivenExactlyWhen.{past_the_header, table_passes, routines_in_order, taken_exactly_when}

-- ---- the bytes

-- the fields of a line of routine r, which has n lines
pub record TakenLine (f : LineFields) (r n : ℕ) : Type 0 where
  pub kind_from_1 : INC_kind ≤ f.kind
  pub kind_to_5 : f.kind ≤ REPEAT_kind
  pub register_to_31 : f.register ≤ last_register
  pub zero_where_0_stands : ZeroStands f → f.register ≡ 0
  pub target_to_the_end : HasTarget f → f.operand ≤ n
  pub INC_operand_0 : f.kind ≡ INC_kind → f.operand ≡ 0
  pub callee_below : HasCallee f → f.operand < r

-- how many lines the routines below r have
unfoldable pub lines_below : List ℕ → ℕ → ℕ
lines_below b zero = 0
lines_below b (suc r) = lines_below b r + count b r

-- past the header's tests
pub record TakenHeader (b : List ℕ) : Type 0 where
  pub has_a_header : header_bytes ≤ length b
  pub format_is_1 : format b ≡ the_format
  pub some_routine : 1 ≤ routines b
  pub routines_to_32 : routines b ≤ most_routines
  pub lines_to_4096 : lines b ≤ most_lines
  pub routine_table_as_due : routine_table b ≡ header_bytes
  pub line_table_as_due : line_table b ≡ line_table_due (routines b)
  pub stated_as_due : stated_length b ≡ length_due (routines b) (lines b)
  pub length_as_due : length b ≡ length_due (routines b) (lines b)

pub record TakenBook (b : List ℕ) : Type 0 where
  pub header : TakenHeader b
  pub starts_where_due : (r : ℕ) → r < routines b → first_line b r ≡ first_line_due b r
  pub last_ends_at_L : first_line_due b (routines b) ≡ lines b
  pub in_order : (r q : ℕ) → r < q → q < routines b → first_line b r + count b r ≤ first_line b q
  pub ends_within : (r : ℕ) → r < routines b → first_line b r + count b r ≤ lines b
  pub starts_after_those_below : (r : ℕ) → r < routines b → first_line b r ≡ lines_below b r
  pub counts_sum_to_L : lines_below b (routines b) ≡ lines b
  pub lines_right : (r j : ℕ) → r < routines b → j < count b r → TakenLine (fields_in b r j) r (count b r)

good_line_is_taken : (f : LineFields) (r n : ℕ) → GoodLine f r n → TakenLine f r n
unfolding WrongKind WrongRegister WrongTarget WrongCallee
good_line_is_taken f r n g =
    let k = else_holds (or_tells (below_tells f.kind INC_kind) (above_tells f.kind REPEAT_kind)) g.kind_right in
    record {
      kind_from_1 = k.0;
      kind_to_5 = k.1;
      register_to_31 = else_holds (above_tells f.register last_register) (λ w. g.register_right (inl w));
      zero_where_0_stands = λ z. else_holds (is_not_tells f.register 0) (λ w. g.register_right (inr (z, w)));
      target_to_the_end = λ t. else_holds (above_tells f.operand n) (λ w. g.target_right (inl (t, w)));
      INC_operand_0 = λ i. else_holds (is_not_tells f.operand 0) (λ w. g.target_right (inr (i, w)));
      callee_below = λ c. else_holds (not_below_tells f.operand r) (λ w. g.callee_right (c, w));
    }

below_is_due : (b : List ℕ) → ((r : ℕ) → r < routines b → first_line b r ≡ first_line_due b r) → (r : ℕ) → r ≤ routines b
    → first_line_due b r ≡ lines_below b r
unfolding first_line_due lines_below
below_is_due b starts zero h = refl
below_is_due b starts (suc r) h = rw (starts r h, below_is_due b starts r (omega arith))

-- the last routine ends at L, and every other before the last
all_end_within : (b : List ℕ) → ((r q : ℕ) → r < q → q < routines b → first_line b r + count b r ≤ first_line b q)
    → (n r : ℕ) → n ≡ routines b → r < n → first_line_due b n ≡ lines b → first_line b r + count b r ≤ lines b
unfolding first_line_due
all_end_within b order zero r e h l = absurd (omega arith)
all_end_within b order (suc n) r e h l =
    ⊎_elim (λ (s : r < n). omega (arith, order r n s (omega arith))) (λ (s : n ≤ r).
    let same : n ≡ r = omega arith in
    omega (arith, ap (λ i. first_line b i + count b i) same)) (one_holds (below_tells r n))

header_facts : (b : List ℕ) → PastLength b → TakenHeader b
unfolding PastLength PastOffsets PastCounts PastFormat PastShort Short WrongFormat WrongCounts WrongOffsets WrongLength
header_facts b p =
    let R = routines b in
    let L = lines b in
    let counts = or_tells (is_tells R 0) (or_tells (above_tells R most_routines) (above_tells L most_lines)) in
    let c = else_holds counts p.0.0.1 in
    let offsets =
    or_tells (is_not_tells (routine_table b) header_bytes)
    (or_tells (is_not_tells (line_table b) (line_table_due R)) (is_not_tells (stated_length b) (length_due R L))) in
    let o = else_holds offsets p.0.1 in
    record {
      has_a_header = else_holds (below_tells (length b) header_bytes) p.0.0.0.0;
      format_is_1 = else_holds (is_not_tells (format b) the_format) p.0.0.0.1;
      some_routine = omega (arith, c.0);
      routines_to_32 = c.1.0;
      lines_to_4096 = c.1.1;
      routine_table_as_due = o.0;
      line_table_as_due = o.1.0;
      stated_as_due = o.1.1;
      length_as_due = else_holds (is_not_tells (length b) (stated_length b)) p.1 ∙ o.1.1;
    }

pub taken_header : (b : List ℕ) → header_verdict b ≡ pass → TakenHeader b
taken_header b e = header_facts b (past_the_header b e)

-- Past the table's tests, no routine ends behind the last line.
pub table_ends_within : (b : List ℕ) → table_verdict b ≡ pass → (r : ℕ) → r < routines b → first_line b r + count b r ≤ lines b
unfolding WrongEnd
table_ends_within b e r h =
    let t = (table_passes b).0 e in
    all_end_within b (routines_in_order b t.0) (routines b) r refl h
    (else_holds (is_not_tells (first_line_due b (routines b)) (lines b)) t.1)

pub taken_book : (b : List ℕ) → Taken b → TakenBook b
unfolding book_verdict WrongEntry WrongEnd GoodIn
taken_book b t =
    let g = (taken_exactly_when b).0 t in
    let past = then_passes (header_verdict b) t in
    let table = (then_passes (table_verdict b) past.1).0 in
    let s : (r : ℕ) → r < routines b → first_line b r ≡ first_line_due b r =
    λ r h. else_holds (is_not_tells (first_line b r) (first_line_due b r)) (g.entries_right r h) in
    let e = else_holds (is_not_tells (first_line_due b (routines b)) (lines b)) g.end_right in
    record {
      header = taken_header b past.0;
      starts_where_due = s;
      last_ends_at_L = e;
      in_order = routines_in_order b g.entries_right;
      ends_within = table_ends_within b table;
      starts_after_those_below = λ r h. s r h ∙ below_is_due b s r (omega arith);
      counts_sum_to_L = sym (below_is_due b s (routines b) (omega arith)) ∙ e;
      lines_right = λ r j h l. good_line_is_taken (fields_in b r j) r (count b r) (g.lines_good r j h l);
    }

-- ---- the book that the bytes say

pub routine_in_the_book : (b : List ℕ) (k : ℕ) → k < routines b → routine (book_of b) k ≡ routine_of b k
unfolding routine book_of
routine_in_the_book b k h = listed_at (routine_of b) 0 (routines b) k k [] h (omega arith)

pub no_routine_from_R_on : (b : List ℕ) (k : ℕ) → routines b ≤ k → routine (book_of b) k ≡ []
unfolding routine book_of
no_routine_from_R_on b k h = get_or-eq_default (book_of b) [] (rw (length_listed (routine_of b) 0 (routines b)) h)

pub length_routine_of : (b : List ℕ) (r : ℕ) → length (routine_of b r) ≡ count b r
unfolding routine_of
length_routine_of b r = length_listed _ 0 (count b r)

-- Line j of routine r stands at j, and behind it the lines after it.
pub stands_in_its_routine : (b : List ℕ) (r j : ℕ) → j < count b r
    → drop j (routine_of b r) ≡ line_of (fields_in b r j) ∷ drop (suc j) (routine_of b r)
unfolding routine_of
stands_in_its_routine b r j h = listed_stands (λ i. line_of (fields_in b r i)) (count b r) j h

-- In the book that the bytes say line j stands at j in its routine, and behind its last line a routine has none.
pub line_in_the_book : (b : List ℕ) (k j : ℕ) → k < routines b → j < count b k
    → drop j (routine (book_of b) k) ≡ line_of (fields_in b k j) ∷ drop (suc j) (routine (book_of b) k)
line_in_the_book b k j h s = rw (routine_in_the_book b k h) (stands_in_its_routine b k j s)

pub routine_ends : (b : List ℕ) (k : ℕ) → k < routines b → drop (count b k) (routine (book_of b) k) ≡ []
routine_ends b k h =
    rw (routine_in_the_book b k h) (drop_of_length-le (routine_of b k) {i = count b k} (omega (arith, length_routine_of b k)))

pub all_its_lines : (b : List ℕ) (k j : ℕ) → k < routines b → count b k ≤ j → take j (routine (book_of b) k) ≡ routine (book_of b) k
all_its_lines b k j h s = rw (routine_in_the_book b k h) (take_all j (routine_of b k) (omega (arith, s, length_routine_of b k)))

-- What stands in the book at line j of routine k is line j of that routine.
pub record StandsIn (b : List ℕ) (k j : ℕ) (l : Line) : Type 0 where
  pub in_the_book : k < routines b
  pub in_the_routine : j < count b k
  pub the_line : l ≡ line_of (fields_in b k j)

pub what_stands : (b : List ℕ) (k j : ℕ) {l : Line} {ls : List Line} → drop j (routine (book_of b) k) ≡ l ∷ ls → StandsIn b k j l
unfolding routine_of listed
what_stands b k j {l} e =
    ⊎_elim (λ (h : k < routines b).
    let m = listed_member (λ i. line_of (fields_in b k i)) 0 (count b k) j j (rw (routine_in_the_book b k h) at e) (omega arith) in
    record { in_the_book = h; in_the_routine = m.0; the_line = m.1 }) (λ (h : routines b ≤ k).
    let m = listed_member (λ i. l) 0 0 j j (rw (no_routine_from_R_on b k h) at e) (omega arith) in
    absurd (omega (arith, m.0))) (one_holds (below_tells k (routines b)))

pub same_fields : {f g : LineFields} → f.kind ≡ g.kind → f.register ≡ g.register → f.operand ≡ g.operand → f ≡ g
same_fields k r o = λ i. record { kind = k i; register = r i; operand = o i }

-- a line of routine k, which has n lines: its register is a register, its target a line or the end, its callee below
pub data LineFits (k n : ℕ) : Line → Type 0 where
  INC_fits : {r : ℕ} → r ≤ last_register → LineFits k n (INC r)
  DEC_fits : {r t : ℕ} → r ≤ last_register → t ≤ n → LineFits k n (DEC r t)
  GO_TO_fits : {t : ℕ} → t ≤ n → LineFits k n (GO_TO t)
  CALL_fits : {c : ℕ} → c < k → LineFits k n (CALL c)
  REPEAT_fits : {r c : ℕ} → r ≤ last_register → c < k → LineFits k n (REPEAT r c)

pub taken_line_fits : (f : LineFields) (k n : ℕ) → TakenLine f k n → LineFits k n (line_of f)
unfolding line_of HasTarget HasCallee
taken_line_fits f k n t =
    either_way (LineFits k n) (is_tells f.kind INC_kind) (λ i. INC_fits t.register_to_31) λ n1.
    either_way (LineFits k n) (is_tells f.kind DEC_kind) (λ i. DEC_fits t.register_to_31 (t.target_to_the_end (inl i))) λ n2.
    either_way (LineFits k n) (is_tells f.kind GO_TO_kind) (λ i. GO_TO_fits (t.target_to_the_end (inr i))) λ n3.
    either_way (LineFits k n) (is_tells f.kind CALL_kind) (λ i. CALL_fits (t.callee_below (inl i))) λ n4.
    REPEAT_fits t.register_to_31 (t.callee_below (inr (omega (arith, t.kind_from_1, t.kind_to_5))))

-- The same table, read from the kind: what is read of a line is written as that line.
pub fields_read_back : (f : LineFields) (r n : ℕ) → TakenLine f r n → fields_of (line_of f) ≡ f
unfolding line_of fields_of ZeroStands
fields_read_back f r n t =
    let C : Line → Type 0 = λ l. fields_of l ≡ f in
    either_way C (is_tells f.kind INC_kind) (λ k. same_fields (sym k) refl (sym (t.INC_operand_0 k))) λ not_1.
    either_way C (is_tells f.kind DEC_kind) (λ k. same_fields (sym k) refl refl) λ not_2.
    either_way C (is_tells f.kind GO_TO_kind) (λ k. same_fields (sym k) (sym (t.zero_where_0_stands (inl k))) refl) λ not_3.
    either_way C (is_tells f.kind CALL_kind) (λ k. same_fields (sym k) (sym (t.zero_where_0_stands (inr k))) refl) λ not_4.
    same_fields (omega (arith, t.kind_from_1, t.kind_to_5)) refl refl

-- .. and what is written of a line is read as that line.
pub line_read_back : (l : Line) → line_of (fields_of l) ≡ l
unfolding line_of fields_of if
line_read_back (INC r) = refl
line_read_back (DEC r t) = refl
line_read_back (GO_TO t) = refl
line_read_back (CALL c) = refl
line_read_back (REPEAT r c) = refl

-- Every line of a taken book fits.
pub taken_lines_fit : (b : List ℕ) → Taken b → (k j : ℕ) {l : Line} {ls : List Line} → drop j (routine (book_of b) k) ≡ l ∷ ls
    → LineFits k (length (routine (book_of b) k)) l
taken_lines_fit b t k j e =
    let s = what_stands b k j e in
    rw (routine_in_the_book b k s.in_the_book, length_routine_of b k, s.the_line)
    (taken_line_fits (fields_in b k j) k (count b k) ((taken_book b t).lines_right k j s.in_the_book s.in_the_routine))

used_is_below : {k n c : ℕ} {l : Line} → LineFits k n l → LineUses l c → c < k
used_is_below (INC_fits _) u = elim u [ ]
used_is_below (DEC_fits _ _) u = elim u [ ]
used_is_below (GO_TO_fits _) u = elim u [ ]
used_is_below (CALL_fits h) by_CALL = h
used_is_below (REPEAT_fits r h) by_REPEAT = h

-- In a taken book CALL and REPEAT name only a routine with a number below their own.
pub taken_callees_below : (b : List ℕ) → Taken b → CalleesBelow (book_of b)
unfolding CalleesBelow
taken_callees_below b t k c u = used_is_below (taken_lines_fit b t k u.at_line u.stands) u.line_uses
