-- The machine and the idea of flattening are those of source document 000, chapter 1 (RAM machine, macro-program, "spljoštenje"). Its
-- machine has endless registers without an upper end; ours has 32 of 0 to 65,535. Where the two differ, this paper decides.
-- Here stands the source's own machine, its Definitions 1.4, 1.5 and 1.8. Ours is in `Steps` and `Running`. Assumes nothing.
use Rattle.std.specs.Prelude.{ℕ, ◌+◌, ◌≤◌, ◌≡◌, ◌≢◌, List, ◌∷◌, length, drop}

-- Definition 1.5. An instruction has a type, which is INC, DEC or GO TO; where it is INC or DEC, the register that it acts on; where it
-- is DEC or GO TO, a target.
pub data Instruction : Type 0 where
  INC : (register : ℕ) → Instruction
  DEC : (register target : ℕ) → Instruction
  GO_TO : (target : ℕ) → Instruction

-- Definition 1.4. The machine has a program, a fixed finite row of instructions I₀, I₁, .., Iₙ₋₁. The number of instructions is its length.
abbrev pub Program : Type 0
Program = List Instruction

-- Iₚ is the instruction with the number p.
pub data Has (P : Program) (p : ℕ) (I : Instruction) : Type 0 where
  has : {rest : Program} → drop p P ≡ I ∷ rest → Has P p I

-- Definition 1.5. As part of a program, a target is one of 0 .. n, where n is the program's length.
unfoldable pub TargetWithin : ℕ → Instruction → Type 0
TargetWithin n (INC j) = Unit {0}
TargetWithin n (DEC j l) = l ≤ n
TargetWithin n (GO_TO l) = l ≤ n

unfoldable pub TargetsWithin : Program → Type 0
TargetsWithin P = (p : ℕ) (I : Instruction) → Has P p I → TargetWithin (length P) I

-- Definition 1.4. There is a register Rⱼ for every natural number j, which can hold any natural number, and a program counter PC.
-- Definition 1.8. A configuration maps the registers and PC to natural numbers ..
pub record Configuration : Type 0 where
  pub registers : ℕ → ℕ
  pub pc : ℕ

-- .. and is 0 almost everywhere, with PC at most n.
pub record IsConfiguration (P : Program) (c : Configuration) : Type 0 where
  pub bound : ℕ
  pub zero_from_the_bound_on : (j : ℕ) → bound ≤ j → c.registers j ≡ 0
  pub pc_within : c.pc ≤ length P

-- A configuration is final if its PC is n.
unfoldable pub Final : Program → Configuration → Type 0
Final P c = c.pc ≡ length P

-- r'ᵢ = rᵢ for all i
unfoldable pub AllRegistersStay : Configuration → Configuration → Type 0
AllRegistersStay c d = (i : ℕ) → d.registers i ≡ c.registers i

-- r'ᵢ = rᵢ for all i other than j
unfoldable pub OtherRegistersStay : ℕ → Configuration → Configuration → Type 0
OtherRegistersStay j c d = (i : ℕ) → i ≢ j → d.registers i ≡ c.registers i

-- c goes to d by the program P, if c is final and c = d, or one of the following holds. (In rule 2, r'ⱼ = rⱼ - 1 among natural numbers.)
pub data GoesTo (P : Program) (c d : Configuration) : Type 0 where
  final : Final P c → d.pc ≡ c.pc → AllRegistersStay c d → GoesTo P c d
  rule_1 : {j : ℕ} → Has P c.pc (INC j) → d.registers j ≡ c.registers j + 1 → d.pc ≡ c.pc + 1 → OtherRegistersStay j c d → GoesTo P c d
  rule_2 : {j l : ℕ} → Has P c.pc (DEC j l) → d.registers j + 1 ≡ c.registers j → d.pc ≡ c.pc + 1 → OtherRegistersStay j c d → GoesTo P c d
  rule_3 : {j l : ℕ} → Has P c.pc (DEC j l) → c.registers j ≡ 0 → d.pc ≡ l → AllRegistersStay c d → GoesTo P c d
  rule_4 : {l : ℕ} → Has P c.pc (GO_TO l) → d.pc ≡ l → AllRegistersStay c d → GoesTo P c d
