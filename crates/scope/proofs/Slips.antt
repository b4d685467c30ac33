-- Document 01, "Slips we have made or seen": for each slip, and for some more, a small book or program that would show it.
-- Both sides are worked out, so a definition that makes the slip makes the statement false. Assumes nothing.
use Prim.Native.Nat.{ℕ}
use mathlib.Core.Path.{◌≡◌, refl}
use mathlib.Core.List.{List, [], ◌∷◌}
use Rattle.scope.specs.Ram as ram
use Rattle.scope.specs.Book.{Line, INC, GO_TO, CALL, REPEAT}
use Rattle.scope.specs.Steps.{FINISHED, OUT_OF_STEPS, end}
use Rattle.scope.specs.Nested.{ended, nested_run}
use Rattle.scope.specs.Flattening.{flat_length, flat_program}
use Rattle.scope.specs.Running.{flat_run}
use Rattle.scope.proofs.Computed.{computed}

-- A jump to a routine's end left unshifted: routine 1 has INC 0, then CALL 0, and routine 0 jumps to its end.
pub end_is_shifted :
    flat_program ((GO_TO 1 ∷ []) ∷ (INC 0 ∷ CALL 0 ∷ INC 1 ∷ []) ∷ []) 1 ≡ ram.INC 0 ∷ ram.GO_TO 2 ∷ ram.INC 1 ∷ []
unfolding computed
end_is_shifted = refl

-- .. or sent past the GO TO that closes a REPEAT: the end of the repeated routine is that GO TO, at line 2, and not line 3 behind it.
pub end_is_the_closing_GO_TO :
    flat_program ((GO_TO 1 ∷ []) ∷ (REPEAT 0 0 ∷ []) ∷ []) 1 ≡ ram.DEC 0 3 ∷ ram.GO_TO 2 ∷ ram.GO_TO 0 ∷ []
unfolding computed
end_is_the_closing_GO_TO = refl

-- Targets moved by line count instead of flat length after an earlier CALL: line 2 starts at 3, since the CALL before it has two lines.
pub target_is_moved_by_length :
    flat_program ((INC 0 ∷ INC 0 ∷ []) ∷ (CALL 0 ∷ GO_TO 2 ∷ INC 1 ∷ []) ∷ []) 1
    ≡ ram.INC 0 ∷ ram.INC 0 ∷ ram.GO_TO 3 ∷ ram.INC 1 ∷ []
unfolding computed
target_is_moved_by_length = refl

-- FULL reported at the end line: the register is at 65,535 there, and budget is left. ..
pub end_line_is_not_FULL : flat_run (ram.INC 0 ∷ []) 0 2 (65534 ∷ []) ≡ end FINISHED 1 1 (65535 ∷ [])
unfolding computed
end_line_is_not_FULL = refl

-- .. or OUT OF STEPS: the budget is used up there.
pub end_line_is_not_OUT_OF_STEPS : flat_run (ram.INC 0 ∷ []) 0 1 (0 ∷ []) ≡ end FINISHED 1 1 (1 ∷ [])
unfolding computed
end_line_is_not_OUT_OF_STEPS = refl

-- A step charged for entering a routine, which an empty one shows at once.
pub entering_is_no_step : nested_run ([] ∷ (CALL 0 ∷ []) ∷ []) 1 0 [] ≡ end FINISHED 0 ended []
unfolding computed
entering_is_no_step = refl

-- Length summed in a number that wraps, so that a huge book looks short: 16 times 16 times 16 times 16 lines are 65,536, and not 0.
abbrev sixteen_calls : ℕ → List Line
sixteen_calls k =
    CALL k ∷ CALL k ∷ CALL k ∷ CALL k ∷ CALL k ∷ CALL k ∷ CALL k ∷ CALL k
    ∷ CALL k ∷ CALL k ∷ CALL k ∷ CALL k ∷ CALL k ∷ CALL k ∷ CALL k ∷ CALL k ∷ []

pub length_does_not_wrap :
    flat_length ((INC 0 ∷ []) ∷ sixteen_calls 0 ∷ sixteen_calls 1 ∷ sixteen_calls 2 ∷ sixteen_calls 3 ∷ []) 4 ≡ 65536
unfolding computed
length_does_not_wrap = refl

-- The way back of a REPEAT is a step: two looks, and one way back between them.
pub way_back_is_a_step : nested_run ([] ∷ (REPEAT 0 0 ∷ []) ∷ []) 1 9 (1 ∷ []) ≡ end FINISHED 3 ended (0 ∷ [])
unfolding computed
way_back_is_a_step = refl

-- DEC on 0 goes to the target.
pub DEC_on_0_jumps : flat_run (ram.DEC 0 2 ∷ ram.INC 1 ∷ []) 0 9 (0 ∷ 0 ∷ []) ≡ end FINISHED 1 2 (0 ∷ 0 ∷ [])
unfolding computed
DEC_on_0_jumps = refl

-- The budget is tested before FULL.
pub budget_before_FULL : flat_run (ram.INC 0 ∷ []) 0 0 (65535 ∷ []) ≡ end OUT_OF_STEPS 0 0 (65535 ∷ [])
unfolding computed
budget_before_FULL = refl

-- INC of a register at 65,534 is done.
pub 65534_is_not_full : flat_run (ram.INC 0 ∷ ram.INC 1 ∷ []) 0 1 (65534 ∷ 0 ∷ []) ≡ end OUT_OF_STEPS 1 1 (65535 ∷ 0 ∷ [])
unfolding computed
65534_is_not_full = refl
