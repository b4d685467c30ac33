-- The mask of a line marks what the line names; the masks of the first j lines joined mark what they name.
-- By the kinds of line; CALL and REPEAT look the routine up in the row. Assumes nothing.
use Prim.Native.Nat.{ℕ, suc, ◌+◌, ◌<◌, ◌≤◌}
use native.Mathlib.Numerals.{add-one}
use mathlib.Core.Bool.{Bool, true, false}
use mathlib.Core.Path.{◌≡◌, refl, sym}
use mathlib.Core.List.{List, ◌∷◌}
use lib.ListN.{get_or, take, drop}
use lib.Bits.{bit_or}
use Rattle.scope.specs.Words.{if, ◌is◌, ◌or◌}
use Rattle.scope.specs.Book as book
use Rattle.scope.specs.Book.{count, line_of, fields_in, routine, book_of, used, routines}
use Rattle.scope.specs.Quote.{names, some_line, in_or_under_by, named}
use Rattle.scope.proofs.Lists.{said_to_the_next}
use Rattle.scope.proofs.Lowest.{in_or_under_by_the_rule}
use Rattle.scope.proofs.TakenBook.{taken_callees_below, line_in_the_book, all_its_lines}
use Rattle.book.specs.declared.header.Counts.{Counts}
use Rattle.book.specs.declared.lines.Reg.{Reg}
use Rattle.book.specs.declared.lines.RoutineLine.{RoutineLine}
use Rattle.book.specs.declared.lines.Line.{Line}
use Rattle.book.specs.declared.lines.Line.TheVariants as line
use Rattle.book.specs.Told.{line_told}
use Rattle.book.specs.Asked.{TakenWith}
use Rattle.book.proofs.Fits.{holds_of_the_line}
use Rattle.flatten.proofs.Rows.{CALL_looked_up, REPEAT_looked_up}
use Rattle.quote.specs.Naming.{Marks, line_names, Masks}
use Rattle.quote.proofs.Bits.{no_register_marked, either_marked, as_marked}

or_none : (s : Bool) → (s or false) ≡ s
unfolding if
or_none true = refl
or_none false = refl

or_again : (r s t : Bool) → (r or (s or t)) ≡ ((r or s) or t)
unfolding if
or_again true s t = refl
or_again false s t = refl

-- ---- a line

module _ (b : List ℕ) (c : Counts) (l : Line) (k j : ℕ) (t : TakenWith b c) (h : k < c.routines) (s : j < count b k)
    (e : line_told l ≡ line_of (fields_in b k j)) where
  abbrev Marked : (mask : ℕ) → Type 0
  Marked = Marks (line_names b (line_of (fields_in b k j)))

  so_named : {m : Line} {f : ℕ → Bool} {mask : ℕ} → l ≡ m → Marks f mask → ((q : ℕ) → f q ≡ line_names b (line_told m) q) → Marked mask
  so_named {mask = mask} d p same = holds_of_the_line b c l k j t h s e (λ x. Marks (line_names b x) mask) d (as_marked p same)

  pub INC_marked : (mask : ℕ) {g : Reg} → l ≡ line.Inc g → Marks (λ q. g.0 is q) mask → Marked mask
  unfolding line_names names used line_told
  INC_marked mask {g} d p = so_named d p (λ q. sym (or_none (g.0 is q)))

  pub DEC_marked : (mask : ℕ) {g : Reg} {u : RoutineLine} → l ≡ line.Dec g u → Marks (λ q. g.0 is q) mask → Marked mask
  unfolding line_names names used line_told
  DEC_marked mask {g} d p = so_named d p (λ q. sym (or_none (g.0 is q)))

  pub GO_TO_marked : {u : RoutineLine} → l ≡ line.GoTo u → Marked 0
  unfolding line_names names used line_told if
  GO_TO_marked d = so_named d no_register_marked (λ q. refl)

  module _ (masks : List ℕ) (w : Masks b k masks) where
    pub CALL_marked : {q : ℕ} → l ≡ line.Call q → Marked (get_or masks q 0)
    unfolding line_names names used line_told if
    CALL_marked d = so_named d (CALL_looked_up b c l k j t h s e 0 _ masks w d) (λ q. refl)

    pub REPEAT_marked : (mask both : ℕ) {g : Reg} {q : ℕ} → l ≡ line.Repeat g q → Marks (λ i. g.0 is i) mask
        → both ≡ bit_or mask (get_or masks q 0) → Marked both
    unfolding line_names names used line_told
    REPEAT_marked mask both d p f = rw f (so_named d (either_marked p (REPEAT_looked_up b c l k j t h s e 0 _ masks w d)) (λ q. refl))

-- ---- a routine

-- what the first j lines of routine k name
unfoldable pub named_to : (b : List ℕ) (k j : ℕ) → (register : ℕ) → Bool
named_to b k j q = some_line (names q) (named (book_of b) q) (take j (routine (book_of b) k))

pub nothing_named : (b : List ℕ) (k : ℕ) → Marks (named_to b k 0) 0
unfolding named_to some_line
nothing_named b k = as_marked no_register_marked (λ q. refl)

named_to_the_next : (such : book.Line → Bool) (f : ℕ → Bool) {l : book.Line} {rest : List book.Line} (ls : List book.Line) (i : ℕ) → drop i ls ≡ l ∷ rest
    → some_line such f (take (suc i) ls) ≡ (some_line such f (take i ls) or (such l or used false f l))
unfolding some_line if
named_to_the_next such f =
    said_to_the_next (some_line such f) (λ x. such x or used false f x) (λ s t. s or t) (λ x xs. or_again (such x) (used false f x) (some_line such f xs)) (λ s. refl) or_none or_again

module _ (b : List ℕ) (c : Counts) (k : ℕ) (t : TakenWith b c) (here : k < routines b) (j mask : ℕ) (m : Marks (named_to b k j) mask) where
  pub one_more_named : (mask' : ℕ) → j < count b k → Marks (line_names b (line_of (fields_in b k j))) mask' → Marks (named_to b k (j + 1)) (bit_or mask mask')
  unfolding named_to line_names
  one_more_named mask' g p =
      rw (add-one j) (as_marked (either_marked m p) (λ q.
      sym (named_to_the_next (names q) (named (book_of b) q) (routine (book_of b) k) j (line_in_the_book b k j here g))))

  pub all_named : count b k ≤ j → Marks (λ q. named (book_of b) q k) mask
  unfolding named_to named in_or_under_by
  all_named g =
      as_marked m (λ q. rw (all_its_lines b k j here g) (sym (in_or_under_by_the_rule (book_of b) (taken_callees_below b t.taken) (names q) k)))
