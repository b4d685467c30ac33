-- Where a place of the nested reading stands in the flat program: the number of the flat line whose step is due there.
-- It ties the two readings together; neither of them is defined by it. Assumes nothing.
use Rattle.std.specs.Prelude.{ℕ, ◌+◌, ◌≡◌, List, [], ◌∷◌}
use Rattle.scope.specs.Book.{Book}
use Rattle.scope.specs.Steps.{End}
use Rattle.scope.specs.Nested.{OpenedBy, a_CALL, a_REPEAT, Step, inc, dec, go_to, look, go_back, Place, ended, due}
use Rattle.scope.specs.Flattening.{flat_length, start}

module _ (book : Book) where
  -- Where this copy of the routine begins: the asked routine's at 0, a called one's where its CALL starts, a repeated one's behind the
  -- DEC that its REPEAT starts with.
  unfoldable pub begins : List OpenedBy → ℕ
  begins [] = 0
  begins (a_CALL k i ∷ around) = begins around + start book k i
  begins (a_REPEAT k i ∷ around) = begins around + start book k i + 1

  -- A step stands where its line starts, and the way back of a REPEAT behind the copy of its routine.
  unfoldable pub behind_its_start : Step → ℕ
  behind_its_start (inc r) = 0
  behind_its_start (dec r t) = 0
  behind_its_start (go_to t) = 0
  behind_its_start (look r c) = 0
  behind_its_start (go_back c) = flat_length book c + 1

  -- The end of the asked routine is the end of its flat program.
  unfoldable pub address : (asked : ℕ) → Place → ℕ
  address asked ended = flat_length book asked
  address asked (due d k i around) = begins around + start book k i + behind_its_start d

-- A flat run and a nested run of the asked routine end alike: same outcome (with FULL's register), steps and registers, and the flat line
-- reached is the address of the place reached.
pub record SameEnd (book : Book) (asked : ℕ) (flat : End ℕ) (nested : End Place) : Type 0 where
  pub same_outcome : flat.outcome ≡ nested.outcome
  pub same_steps : flat.steps ≡ nested.steps
  pub same_registers : flat.registers ≡ nested.registers
  pub line_is_address : flat.place ≡ address book asked nested.place
