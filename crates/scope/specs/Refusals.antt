-- Document 01, "Numbers of refusal": the table, what a refusal carries, and how tests stand in order.
-- The third column, "Given exactly when", stands at each test, in the files of the sections that say what is tested. Assumes nothing.
use Rattle.std.specs.Prelude.{ℕ, zero, suc, Bool}
use Rattle.scope.specs.Words.{if}

infixr 20 ◌otherwise◌ ◌and_then◌
-- The table's names ..
pub data Name : Type 0 where
  SHORT FORMAT COUNTS OFFSETS LENGTH ROUTINE KIND REGISTER TARGET CALLEE : Name
  DEPTH NO_ROUTINE TOO_LONG NO_ROOM NOT_FLAT REGISTERS LINE NOT_STEADY QUOTE : Name

-- .. and its numbers.
unfoldable pub number : Name → ℕ
number SHORT = 1
number FORMAT = 2
number COUNTS = 3
number OFFSETS = 4
number LENGTH = 5
number ROUTINE = 6
number KIND = 7
number REGISTER = 8
number TARGET = 9
number CALLEE = 10
number DEPTH = 11
number NO_ROUTINE = 12
number TOO_LONG = 13
number NO_ROOM = 14
number NOT_FLAT = 15
number REGISTERS = 16
number LINE = 17
number NOT_STEADY = 18
number QUOTE = 19

-- A refusal carries its place: the routine for 6 .., the line counted over the whole book for 7 to 10, else 0.
pub record Refusal : Type 0 where
  pub name : Name
  pub place : ℕ

-- Every refusal is made here.
abbrev pub refusal : Name → (place : ℕ) → Refusal
refusal n p = record { name = n; place = p }

-- What a row of tests comes to: nothing is wrong, or the refusal that is given.
pub data Verdict : Type 0 where
  pass : Verdict
  refuse : Refusal → Verdict

-- Order: a test that finds its fault gives its refusal, otherwise the next is made. So the tests of a call stand under one another:
--     refuse_if (.. is wrong) NAME place otherwise
--     refuse_if (.. is wrong) NAME place otherwise
--     pass
abbrev pub refuse_if : Bool → Name → ℕ → Verdict → Verdict
refuse_if wrong n p rest = if wrong (refuse (refusal n p)) rest

abbrev pub ◌otherwise◌ : (Verdict → Verdict) → Verdict → Verdict
test otherwise rest = test rest

-- Order: all tests of the first verdict come before those of the second.
unfoldable pub ◌and_then◌ : Verdict → Verdict → Verdict
pass and_then v = v
refuse x and_then v = refuse x

-- .. the lowest .. is the one named ..: the first refusal among t 0, t 1, .., t (n - 1)
unfoldable pub first : (ℕ → Verdict) → ℕ → Verdict
first t zero = pass
first t (suc n) = first t n and_then t n

-- What a call answers: a refusal, or its values.
pub data Answer (A : Type 0) : Type 0 where
  refused : Refusal → Answer A
  accepted : A → Answer A

unfoldable pub answer_of : {A : Type 0} → Verdict → A → Answer A
answer_of pass values = accepted values
answer_of (refuse x) values = refused x

-- What a call does that is lent something to write in: what it answers, and what it leaves there.
pub record Call (A L : Type 0) : Type 0 where
  pub answer : Answer A
  pub left : L

-- Nothing is written and no step is counted: refused, what was lent is what it was.
unfoldable pub left_of : {L : Type 0} → Verdict → L → L → L
left_of pass written lent = written
left_of (refuse x) written lent = lent

unfoldable pub call_of : {A L : Type 0} → Verdict → A → L → L → Call A L
call_of v values written lent = record { answer = answer_of v values; left = left_of v written lent }
