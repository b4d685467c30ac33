-- Rules by which `search` closes what a row of tests leaves: each test that a line of code makes is the test of the definition.
-- An `if` of the definitions goes as its test does; a test tells by the order of two numbers. Assumes nothing.
use Prim.Native.Nat.{ℕ, ◌+◌}
use mathlib.Core.Bool.{Bool, true, false, not}
use mathlib.Core.Path.{◌≡◌, refl, sym, ◌∙◌}
use mathlib.Core.Logic.{◌≢◌}
use borrow.Author.Tests.{lt-ltb, le-ltb, le-leb, lt-leb, eq-eqb, ne_eqb}
use borrow.Author.Rules.{rules}
use lib.Dec.{eqb}
use Rattle.scope.specs.Words.{if}
use Rattle.scope.specs.Refusals.{number}
use Rattle.scope.proofs.Verdicts.{if_true, if_false}
use Rattle.book.specs.declared.refusals.Name.{Name}
use Rattle.book.specs.declared.refusals.Name.TheVariants as name
use Rattle.book.specs.contracts.refusals.Name.{the_type}
use denote.Enum.Declared.{tag_of}
use Rattle.book.specs.Told.{name_told}

pub eq_not : (m n : ℕ) → m ≡ n → not (eqb m n) ≡ false
eq_not m n e = rw (eq-eqb m n e)

pub ne_not : (m n : ℕ) → m ≢ n → not (eqb m n) ≡ true
ne_not m n e = rw (ne_eqb m n e)

pub via : {r s t : Bool} → r ≡ s → r ≡ t → s ≡ t
via p q = sym p ∙ q

-- the answer of a test that finds its fault, and of one that does not
pub so_then : {A : Type 0} (t : Bool) (x a b : A) → x ≡ a → t ≡ true → x ≡ if t a b
so_then t x a b e f = e ∙ sym (if_true t a b f)

pub so_else : {A : Type 0} (t : Bool) (x a b : A) → t ≡ false → x ≡ b → x ≡ if t a b
so_else t x a b f e = e ∙ sym (if_false t a b f)

-- A name's number in the code, which counts the names from 1, is its row of the table.
pub number_of_the_row : (n : Name) → tag_of the_type n + 1 ≡ number (name_told n)
unfolding number name_told
number_of_the_row name.Short = refl
number_of_the_row name.Format = refl
number_of_the_row name.Counts = refl
number_of_the_row name.Offsets = refl
number_of_the_row name.Length = refl
number_of_the_row name.Routine = refl
number_of_the_row name.Kind = refl
number_of_the_row name.Register = refl
number_of_the_row name.Target = refl
number_of_the_row name.Callee = refl
number_of_the_row name.Depth = refl
number_of_the_row name.NoRoutine = refl
number_of_the_row name.TooLong = refl
number_of_the_row name.NoRoom = refl
number_of_the_row name.NotFlat = refl
number_of_the_row name.Registers = refl
number_of_the_row name.Line = refl
number_of_the_row name.NotSteady = refl
number_of_the_row name.Quote = refl

-- tests that the code makes in place
pub ruleset tests = (rules, if_true, if_false, lt-ltb, le-ltb, le-leb, lt-leb, eq-eqb, ne_eqb, eq_not, ne_not)

-- tests that it makes by calls
pub ruleset calls = (if_true, if_false, via, ne_eqb)

-- rows of tests, each of which refuses or leaves it to the next
pub ruleset refusing = (so_then, so_else, via, lt-ltb, le-ltb, eq_not, ne_not)
