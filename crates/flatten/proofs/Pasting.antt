-- What stands at a flat line: what the line leaves there in which it lies, an instruction or a copy deeper down.
-- A line of a copy leaves it behind where the line starts, moved by where the copy begins (`FlatLines` of `scope`). Assumes nothing.
use mir.Syntax.{w16}
use mir.Val.{Fits}
use Prim.Native.Nat.{ℕ, suc, ◌+◌, ◌-◌, ◌<◌, ◌≤◌}
use native.Mathlib.Omega.{arith}
use native.Mathlib.Numerals.{add-one}
use mathlib.Core.Path.{◌≡◌, refl, sym, ◌∙◌, ap}
use mathlib.Core.Logic.{◌≢◌}
use mathlib.Core.List.{List, ◌∷◌}
use lib.ListN.{length, drop}
use Rattle.scope.specs.Ram.{Program, Has, has}
use Rattle.scope.specs.Book as book
use Rattle.scope.specs.Book.{Book, most_routines, most_lines, routines, count, REPEAT, line_of, fields_in, routine, Taken, LineUses, by_CALL, by_REPEAT, CalleesBelow, book_of}
use Rattle.scope.specs.Flattening.{line_length, flat_length, start, copy_line, copy, flat_program, most_flat_lines}
use Rattle.scope.proofs.TakenBook.{taken_book, taken_callees_below, line_in_the_book}
use Rattle.scope.proofs.FlatLines.{first_start, next_start, start_within, Stands, whole_copy_stands, line_stands, repeat_looks, repeated_copy_stands, repeat_goes_back}
use Rattle.book.specs.declared.header.Counts.{Counts}
use Rattle.book.specs.declared.lines.Reg.{Reg}
use Rattle.book.specs.declared.lines.RoutineLine.{RoutineLine}
use Rattle.book.specs.declared.lines.Line.{Line}
use Rattle.book.specs.declared.lines.Line.TheVariants as line
use Rattle.book.specs.declared.flat.FlatLine.{FlatLine}
use Rattle.book.specs.declared.flat.Instruction.{Instruction}
use Rattle.book.specs.declared.flat.Instruction.TheVariants as instruction
use Rattle.book.specs.Told.{line_told, instruction_told}
use Rattle.book.specs.Asked.{TakenWith}
use Rattle.book.proofs.Fits.{DEC_target, GO_TO_target}
use Rattle.flatten.specs.declared.copying.Place.{Place}
use Rattle.flatten.specs.declared.copying.Pasted.{Pasted}
use Rattle.flatten.specs.declared.copying.Inside.{Inside}
use Rattle.flatten.specs.declared.copying.Inside.TheVariants as inside
use Rattle.flatten.specs.Rows.{Table}
use Rattle.flatten.specs.Copies.{CopyWithin, InTheCopy, InTheLine, LineAround, HasCopy, LiesIn, ComesTo, PastedAt, DeeperThere, InsideIs}

-- ---- what stands there

module _ (b : List ℕ) (t : Taken b) (at : Place) (p : ℕ) (w : InTheLine b at.routine at.base.0 at.line.0 p) where
  abbrev B : Book
  B = book_of b

  abbrev k : ℕ
  k = at.routine

  abbrev base : ℕ
  base = at.base.0

  abbrev i : ℕ
  i = at.line.0

  abbrev s : ℕ
  s = base + start B k i

  abbrev l : book.Line
  l = line_of (fields_in b k i)

  ok : CalleesBelow B
  ok = taken_callees_below b t

  in_its_routine : drop i (routine B k) ≡ l ∷ drop (suc i) (routine B k)
  in_its_routine = line_in_the_book b k i w.copy_within.a_routine w.a_line

  ends_at : start B k (i + 1) ≡ start B k i + line_length (flat_length B) l
  ends_at = ap (start B k) (add-one i) ∙ next_start B k i in_its_routine

  ends_within : s + line_length (flat_length B) l ≤ most_flat_lines
  ends_within = omega (arith, ends_at, w.copy_within.ends_within, start_within B ok k (i + 1))

  pub next_line_number_fits : Fits w16 (i + 1)
  next_line_number_fits =
      let T = taken_book b t in
      record { fits = omega (arith, w.a_line, T.ends_within k w.copy_within.a_routine, T.header.lines_to_4096) }

  pub line_below_most : i < most_lines
  line_below_most =
      let T = taken_book b t in
      omega (arith, w.a_line, T.ends_within k w.copy_within.a_routine, T.header.lines_to_4096)

  pub next_line_or_end : i + 1 ≤ count b k
  next_line_or_end = omega (arith, w.a_line)

  module _ (c : Counts) (counted : TakenWith b c) (m : Line) (told : line_told m ≡ l) where
    here : k < c.routines
    here = rw counted.tabled.sized.counts.routines_are w.copy_within.a_routine

    pub DEC_target_there : {g : Reg} {q : RoutineLine} → m ≡ line.Dec g q → q.0 ≤ count b k
    DEC_target_there e = DEC_target b c m k i counted here w.a_line told e

    pub GO_TO_target_there : {q : RoutineLine} → m ≡ line.GoTo q → q.0 ≤ count b k
    GO_TO_target_there e = GO_TO_target b c m k i counted here w.a_line told e

  pub is_REPEAT : (m : Line) → line_told m ≡ l → {g : Reg} {q : ℕ} → m ≡ line.Repeat g q → l ≡ REPEAT g.0 q
  unfolding line_told
  is_REPEAT m told e = sym told ∙ ap line_told e

  leaves : {m : book.Line} (P : Program) → l ≡ m → HasCopy P b k base → Stands P s (copy_line B (copy B) k base s m)
  leaves P e h = rw e at (line_stands B ok k i h in_its_routine refl)

  -- The place behind the line is where it ends.
  comes_behind : (P : Program) (next : Place) → next ≡ record { routine = k; base = at.base; line = record { 0 = i + 1 } } → p + 1 ≡ base + start B k (i + 1)
      → HasCopy P b k base → ComesTo P b next (p + 1)
  comes_behind P next e there h =
      rw e (record { starts_at = record { copy_within = w.copy_within; a_line_or_end = next_line_or_end; starts_there = there }; has_copy = h })

  module _ (next : Place) (behind : next ≡ record { routine = k; base = at.base; line = record { 0 = i + 1 } }) (r : Inside) (x : Instruction)
      (found : r ≡ inside.Stands (record { instruction = x; behind = next })) where
    -- A line that leaves one instruction.
    one_left : {m : book.Line} → l ≡ m → line_length (flat_length B) m ≡ 1
        → ((P : Program) → HasCopy P b k base → Has P s (instruction_told x)) → InsideIs b k base p r
    unfolding InsideIs
    one_left e one there =
        let long = ap (line_length (flat_length B)) e ∙ one in
        let here : s ≡ p = omega (arith, long, ends_at, w.from, w.to) in
        rw found
        (record {
          pasted = λ P h. record {
            stands = rw here at (there P h);
            behind_it = comes_behind P next behind (omega (arith, long, ends_at, here)) h;
          };
        })

    module _ (c : Line) (told : line_told c ≡ l) where
      pub INC_found : {g : Reg} → c ≡ line.Inc g → x ≡ instruction.Inc g → InsideIs b k base p r
      unfolding line_told line_length copy_line instruction_told
      INC_found e f =
          let m = sym told ∙ ap line_told e in
          one_left m refl (λ P h. rw f (has (leaves P m h).there))

      pub DEC_found : {g : Reg} {q : RoutineLine} (u : FlatLine) → c ≡ line.Dec g q → u.0 ≡ base + start B k q.0 → x ≡ instruction.Dec g u
          → InsideIs b k base p r
      unfolding line_told line_length copy_line instruction_told
      DEC_found u e moved f =
          let m = sym told ∙ ap line_told e in
          one_left m refl (λ P h. rw (f, moved) (has (leaves P m h).there))

      pub GO_TO_found : {q : RoutineLine} (u : FlatLine) → c ≡ line.GoTo q → u.0 ≡ base + start B k q.0 → x ≡ instruction.GoTo u
          → InsideIs b k base p r
      unfolding line_told line_length copy_line instruction_told
      GO_TO_found u e moved f =
          let m = sym told ∙ ap line_told e in
          one_left m refl (λ P h. rw (f, moved) (has (leaves P m h).there))

  -- What a line uses is lower, and its copy lies within this one.
  module _ (q : ℕ) (u : ℕ) (uses : LineUses l q) (inner : u + flat_length B q ≤ most_flat_lines) where
    lower : q < k
    unfolding CalleesBelow
    lower = ok k q (record { at_line = i; line = l; rest = drop (suc i) (routine B k); stands = in_its_routine; line_uses = uses })

    inner_within : CopyWithin b q u
    inner_within = record { a_routine = omega (arith, lower, w.copy_within.a_routine); ends_within = inner }

    -- the copy of routine q that begins at u
    deeper : (body : Place) → body.routine ≡ q → body.base.0 ≡ u → u ≤ p → p < u + flat_length B q
        → ((P : Program) → HasCopy P b k base → HasCopy P b q u) → InsideIs b k base p (inside.Deeper body)
    unfolding InsideIs
    deeper body e f from to there =
        rw (e, f) (record { lower = lower; in_the_copy = record { copy_within = inner_within; from = from; to = to }; has_copy = there })

  pub CALL_found : (c : Line) → line_told c ≡ l → {q : ℕ} (u : FlatLine) (body : Place) → c ≡ line.Call q → u.0 ≡ base + start B k i
      → body ≡ record { routine = q; base = u; line = record { 0 = 0 } } → InsideIs b k base p (inside.Deeper body)
  unfolding line_told line_length copy_line
  CALL_found c told {q} u body e moved f =
      let m : l ≡ book.CALL q = sym told ∙ ap line_told e in
      let long : line_length (flat_length B) l ≡ flat_length B q = ap (line_length (flat_length B)) m in
      deeper q s (rw m by_CALL) (omega (arith, long, ends_within)) body (ap (λ (y : Place). y.routine) f)
      (ap (λ (y : Place). y.base.0) f ∙ moved) w.from (omega (arith, long, ends_at, w.to)) (λ P h. leaves P m h)

  -- ---- a REPEAT

  module _ (g : Reg) (q : ℕ) (repeats : l ≡ REPEAT g.0 q) (u : FlatLine) (starts : u.0 ≡ base + start B k i) where
    long : line_length (flat_length B) l ≡ flat_length B q + 2
    unfolding line_length
    long = ap (line_length (flat_length B)) repeats

    uses : LineUses l q
    uses = rw repeats by_REPEAT

    inner : s + 1 + flat_length B q ≤ most_flat_lines
    inner = omega (arith, long, ends_within)

    module _ (v : FlatLine) (ends : v.0 ≡ base + start B k (i + 1)) where
      pub REPEAT_goes_back : (next : Place) → next ≡ record { routine = k; base = at.base; line = record { 0 = i + 1 } } → (r : Inside) → p ≡ v.0 - 1
          → r ≡ inside.Stands (record { instruction = instruction.GoTo u; behind = next }) → InsideIs b k base p r
      unfolding InsideIs instruction_told
      REPEAT_goes_back next behind r here found =
          let at_its_end : p ≡ s + flat_length B q + 1 = omega (arith, here, ends, ends_at, long) in
          rw found
          (record {
            pasted = λ P h. record {
              stands = rw starts (has (repeat_goes_back B k base s g.0 q (leaves P repeats h) p at_its_end).there);
              behind_it = comes_behind P next behind (omega (arith, at_its_end, ends_at, long)) h;
            };
          })

      module _ (body : Place) (begins : body ≡ record { routine = q; base = record { 0 = u.0 + 1 }; line = record { 0 = 0 } }) where
        its_routine : body.routine ≡ q
        its_routine = ap (λ (y : Place). y.routine) begins

        its_base : body.base.0 ≡ s + 1
        its_base = ap (λ (y : Place). y.base.0) begins ∙ ap (λ n. n + 1) starts

        its_line : body.line.0 ≡ 0
        its_line = ap (λ (y : Place). y.line.0) begins

        pub REPEAT_looks : (r : Inside) → p ≡ u.0 → r ≡ inside.Stands (record { instruction = instruction.Dec g v; behind = body }) → InsideIs b k base p r
        unfolding InsideIs instruction_told
        REPEAT_looks r here found =
            let at_s : s ≡ p = omega (arith, here, starts) in
            let to : p + flat_length B q + 2 ≡ v.0 = omega (arith, ends, ends_at, long, at_s) in
            let base_is : body.base.0 ≡ p + 1 = its_base ∙ ap (λ n. n + 1) at_s in
            rw found
            (record {
              pasted = λ P h.
                  let whole = rw at_s at (leaves P repeats h) in
                  record {
                    stands = rw (sym to) (has (repeat_looks B k base p g.0 q whole).there);
                    behind_it = rw (its_routine, base_is, its_line)
                        (record {
                          starts_at = record {
                            copy_within = rw at_s at (inner_within q (s + 1) uses inner);
                            a_line_or_end = omega arith;
                            starts_there = omega (arith, first_start B q);
                          };
                          has_copy = repeated_copy_stands B k base p g.0 q whole;
                        });
                  };
            })

        pub REPEAT_deeper : p ≢ u.0 → p ≢ v.0 - 1 → InsideIs b k base p (inside.Deeper body)
        REPEAT_deeper not_first not_last =
            deeper q (s + 1) uses inner body its_routine its_base
            (omega (arith, not_first, starts, w.from))
            (omega (arith, not_last, ends, ends_at, long, w.to))
            (λ P h. repeated_copy_stands B k base s g.0 q (leaves P repeats h))

-- ---- from the top, and deeper

lies_around : (P : Program) (b : List ℕ) (inner : Place) (p : ℕ) (at : Place) → HasCopy P b inner.routine inner.base.0
    → LineAround b inner p at → LiesIn P b at p
lies_around P b inner p at h s =
    record {
      in_the_line = rw (s.same_routine, s.same_base) s.in_the_line;
      has_copy = rw (s.same_routine, s.same_base) h;
    }

module _ (b : List ℕ) (asked : ℕ) (whole : CopyWithin b asked 0) where
  abbrev flat : Program
  flat = flat_program (book_of b) asked

  pub first_place : (here : Place) → here ≡ record { routine = asked; base = record { 0 = 0 }; line = record { 0 = 0 } } → ComesTo flat b here 0
  first_place here e =
      rw e
      (record {
        starts_at = record { copy_within = whole; a_line_or_end = omega arith; starts_there = omega (arith, first_start (book_of b) asked) };
        has_copy = whole_copy_stands (book_of b) asked;
      })

  pub in_the_top : (top : Place) (p n : ℕ) → top ≡ record { routine = asked; base = record { 0 = 0 }; line = record { 0 = 0 } }
      → n ≡ flat_length (book_of b) asked → p < n → InTheCopy b top.routine top.base.0 p
  in_the_top top p n e size below =
      rw e (record { copy_within = whole; from = omega arith; to = omega (arith, size, below) })

  pub lies_in_the_top : (top at : Place) (p : ℕ) → top ≡ record { routine = asked; base = record { 0 = 0 }; line = record { 0 = 0 } }
      → LineAround b top p at → LiesIn flat b at p
  lies_in_the_top top at p e = lies_around flat b top p at (rw e (whole_copy_stands (book_of b) asked))

-- The line that starts at p is the one in which p lies, if it ends behind p.
pub lies_here : (P : Program) (b : List ℕ) (here : Place) (p n end : ℕ) → ComesTo P b here p → n ≡ count b here.routine → here.line.0 < n
    → end ≡ here.base.0 + start (book_of b) here.routine (here.line.0 + 1) → p < end → LiesIn P b here p
lies_here P b here p n end c size h e s =
    record {
      in_the_line = record {
        copy_within = c.starts_at.copy_within;
        a_line = omega (arith, size, h);
        from = omega (arith, c.starts_at.starts_there);
        to = omega (arith, e, s);
      };
      has_copy = c.has_copy;
    }

-- At every turn flat line p lies in a line of a copy that stands in the program. (Of the lines seen nothing is asked but that each routine has
-- its own: a guess is tried before it is taken.)
pub record Looking (P : Program) (b starts : List ℕ) (at : Place) (p : ℕ) (seen₀ seen : List ℕ) : Type 0 where
  pub table : Table b starts
  pub lies_in : LiesIn P b at p
  pub a_line_each : length seen ≡ most_routines
  pub as_many : length seen ≡ length seen₀

pub looks_first : (P : Program) (b starts : List ℕ) (at : Place) (p : ℕ) (lent seen : List ℕ) → Table b starts → LiesIn P b at p
    → length lent ≡ most_routines → length seen ≡ length lent → Looking P b starts at p seen seen
looks_first P b starts at p lent seen T s long same = record { table = T; lies_in = s; a_line_each = same ∙ long; as_many = refl }

-- Flat line p lies in the place's line, and this is found there.
module _ (P : Program) (b : List ℕ) (at : Place) (p : ℕ) (s : LiesIn P b at p) (found : Inside) (is : InsideIs b at.routine at.base.0 p found) where
  pub pasted_there : {x : Pasted} → found ≡ inside.Stands x → PastedAt P b p x
  unfolding InsideIs
  pasted_there e =
      let f = rw e at is in
      f.pasted P s.has_copy

  module _ {inner : Place} (e : found ≡ inside.Deeper inner) where
    there : DeeperThere b at.routine at.base.0 p inner
    unfolding InsideIs
    there = rw e at is

    pub in_the_inner : InTheCopy b inner.routine inner.base.0 p
    in_the_inner = there.in_the_copy

    module _ (next : Place) (around : LineAround b inner p next) where
      pub lies_deeper : LiesIn P b next p
      lies_deeper = lies_around P b inner p next (there.has_copy P s.has_copy) around

      pub falls : next.routine < at.routine
      falls = rw around.same_routine there.lower

-- So does the next turn's, whatever lines are seen by then.
module _ (P : Program) (b starts : List ℕ) (at : Place) (p : ℕ) (seen₀ seen : List ℕ) (s : Looking P b starts at p seen₀ seen) (found : Inside)
    (is : InsideIs b at.routine at.base.0 p found) {inner : Place} (e : found ≡ inside.Deeper inner) (next : Place)
    (around : LineAround b inner p next) where
  pub looks_deeper : (seen' : List ℕ) → length seen' ≡ length seen → Looking P b starts next p seen₀ seen'
  looks_deeper seen' same =
      record {
        table = s.table;
        lies_in = lies_deeper P b at p s.lies_in found is e next around;
        a_line_each = same ∙ s.a_line_each;
        as_many = same ∙ s.as_many;
      }
