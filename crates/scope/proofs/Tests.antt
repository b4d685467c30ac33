-- Each test of 1 to 10 tells what the table of document 01 says: it is true exactly when the row's words hold, else false.
-- Made of the tests on numbers as the definitions make it; 8 and 9 are put in the paper's words afterwards. Assumes nothing.
use Prim.Native.Nat.{ℕ, ◌<◌}
use native.Mathlib.Omega.{arith}
use mathlib.Core.Logic.{inl, inr, ⊎_elim}
use mathlib.Core.List.{List}
use lib.ListN.{length}
use Rattle.scope.specs.Words.{◌is◌, ◌is_not◌, ◌below◌, ◌or◌}
use Rattle.scope.specs.Book.{the_format, most_routines, most_lines, header_bytes, last_register, format, routines, lines, routine_table, line_table, stated_length, line_table_due, length_due, counts_wrong, offsets_wrong, first_line, first_line_due, LineFields, INC_kind, DEC_kind, GO_TO_kind, CALL_kind, REPEAT_kind, kind_wrong, register_wrong, target_wrong, callee_wrong}
use Rattle.scope.specs.Given.{Short, WrongFormat, WrongCounts, WrongOffsets, WrongLength, WrongEntry, WrongEnd, WrongKind, ZeroStands, WrongRegister, HasTarget, WrongTarget, HasCallee, WrongCallee}
use Rattle.scope.proofs.Verdicts.{Tells, in_words, no_fault, above_tells, below_tells, not_below_tells, is_tells, is_not_tells, never_tells, if_tells, or_tells}

-- ---- the header and the routine table

pub short_tells : (b : List ℕ) → Tells (length b below header_bytes) (Short b) (¬ Short b)
unfolding Short
short_tells b = no_fault (below_tells (length b) header_bytes)

pub format_tells : (b : List ℕ) → Tells (format b is_not the_format) (WrongFormat b) (¬ WrongFormat b)
unfolding WrongFormat
format_tells b = no_fault (is_not_tells (format b) the_format)

pub counts_tells : (b : List ℕ) → Tells (counts_wrong (routines b) (lines b)) (WrongCounts b) (¬ WrongCounts b)
unfolding WrongCounts counts_wrong
counts_tells b =
    no_fault (or_tells (is_tells (routines b) 0) (or_tells (above_tells (routines b) most_routines) (above_tells (lines b) most_lines)))

pub offsets_tells : (b : List ℕ)
    → Tells (offsets_wrong (routines b) (lines b) (routine_table b) (line_table b) (stated_length b)) (WrongOffsets b) (¬ WrongOffsets b)
unfolding WrongOffsets offsets_wrong
offsets_tells b =
    let R = routines b in
    no_fault (or_tells (is_not_tells (routine_table b) header_bytes)
    (or_tells (is_not_tells (line_table b) (line_table_due R)) (is_not_tells (stated_length b) (length_due R (lines b)))))

pub length_tells : (b : List ℕ) → Tells (length b is_not stated_length b) (WrongLength b) (¬ WrongLength b)
unfolding WrongLength
length_tells b = no_fault (is_not_tells (length b) (stated_length b))

pub entry_tells : (b : List ℕ) (r : ℕ) → Tells (first_line b r is_not first_line_due b r) (WrongEntry b r) (¬ WrongEntry b r)
unfolding WrongEntry
entry_tells b r = no_fault (is_not_tells (first_line b r) (first_line_due b r))

pub end_tells : (b : List ℕ) → Tells (first_line_due b (routines b) is_not lines b) (WrongEnd b) (¬ WrongEnd b)
unfolding WrongEnd
end_tells b = no_fault (is_not_tells (first_line_due b (routines b)) (lines b))

-- ---- a line

pub kind_tells : (f : LineFields) → Tells (kind_wrong f.kind) (WrongKind f) (¬ WrongKind f)
unfolding WrongKind kind_wrong
kind_tells f = no_fault (or_tells (below_tells f.kind INC_kind) (above_tells f.kind REPEAT_kind))

zero_stands_tells : (f : LineFields) → Tells (f.kind is GO_TO_kind or f.kind is CALL_kind) (ZeroStands f) (¬ ZeroStands f)
unfolding ZeroStands
zero_stands_tells f = no_fault (or_tells (is_tells f.kind GO_TO_kind) (is_tells f.kind CALL_kind))

pub register_tells : (f : LineFields) → Tells (register_wrong f.kind f.register) (WrongRegister f) (¬ WrongRegister f)
unfolding WrongRegister register_wrong
register_tells f =
    in_words (if_tells (zero_stands_tells f) (is_not_tells f.register 0) (above_tells f.register last_register))
    (⊎_elim (λ x. inr x) (λ x. inl x.1))
    (⊎_elim (λ x. ⊎_elim (λ (h : last_register < f.register). omega (arith, x.1)) (λ y. y.1 x.1))
    (λ x. ⊎_elim (λ (h : last_register < f.register). omega (arith, x.1)) (λ y. x.0 y.0)))
    (λ p n. n p)

has_target_tells : (f : LineFields) → Tells (f.kind is DEC_kind or f.kind is GO_TO_kind) (HasTarget f) (¬ HasTarget f)
unfolding HasTarget
has_target_tells f = no_fault (or_tells (is_tells f.kind DEC_kind) (is_tells f.kind GO_TO_kind))

pub target_tells : (f : LineFields) (n : ℕ) → Tells (target_wrong f.kind f.operand n) (WrongTarget f n) (¬ WrongTarget f n)
unfolding WrongTarget target_wrong
target_tells f n =
    let not_INC = if_tells (has_target_tells f) (above_tells f.operand n) never_tells in
    in_words (if_tells (is_tells f.kind INC_kind) (is_not_tells f.operand 0) not_INC)
    (⊎_elim (λ x. inr x) (λ x. ⊎_elim (λ y. inl y) (λ y. absurd y.1) x.1))
    (⊎_elim (λ x. ⊎_elim (λ y. omega (arith, x.1, y.1)) (λ y. y.1 x.1))
    (λ x. ⊎_elim (λ y. ⊎_elim (λ z. omega (arith, z.1, y.1)) (λ z. z.0 y.0) x.1) (λ y. x.0 y.0)))
    (λ p n. n p)

has_callee_tells : (f : LineFields) → Tells (f.kind is CALL_kind or f.kind is REPEAT_kind) (HasCallee f) (¬ HasCallee f)
unfolding HasCallee
has_callee_tells f = no_fault (or_tells (is_tells f.kind CALL_kind) (is_tells f.kind REPEAT_kind))

pub callee_tells : (f : LineFields) (r : ℕ) → Tells (callee_wrong f.kind f.operand r) (WrongCallee f r) (¬ WrongCallee f r)
unfolding WrongCallee callee_wrong
callee_tells f r =
    in_words (if_tells (has_callee_tells f) (not_below_tells f.operand r) never_tells)
    (⊎_elim (λ x. x) (λ x. absurd x.1))
    (⊎_elim (λ x w. omega (arith, x.1, w.1)) (λ x w. x.0 w.0))
    (λ p n. n p)
