-- What the machine does before one instruction is the definitions' step at its line.
-- By the instruction's cases: each does to the registers what the definition says, or nothing where it stands before a full one. Assumes nothing.
use Rattle.std.specs.Prelude.{Ok, Err}
use Prim.Native.Nat.{ℕ, zero, suc, ◌+◌, ◌-◌, ◌<◌}
use native.Mathlib.Omega.{arith}
use native.Mathlib.Numerals.{add-one}
use mathlib.Core.Path.{◌≡◌, refl, sym, ap}
use mathlib.Core.Logic.{◌≢◌}
use mathlib.Core.List.{[], ◌∷◌}
use lib.ListN.{length, get_or, set}
use borrow.Author.Tests.{eq-eqb, ne_eqb}
use Rattle.scope.specs.Steps as paper
use Rattle.scope.specs.Steps.{top, Registers, value, with_value, goes_to, adds_one, takes_one_from, takes_one_off}
use Rattle.scope.specs.Running.{flat_step}
use Rattle.scope.specs.Transitions.{RegisterWithin}
use Rattle.scope.proofs.Verdicts.{if_true, if_false}
use Rattle.book.specs.declared.lines.Reg.{Reg}
use Rattle.book.specs.declared.flat.FlatLine.{FlatLine}
use Rattle.book.specs.declared.flat.Instruction.{Instruction}
use Rattle.book.specs.declared.flat.Instruction.TheVariants.{Inc, Dec, GoTo}
use Rattle.book.specs.Told.{instruction_told}
use Rattle.unit.specs.Told.{next_told, did}

module _ (x : Instruction) (rs : Registers) (h : RegisterWithin (length rs) (instruction_told x)) (k : ℕ) {g : Reg} where
  pub INC_within : x ≡ Inc g → k ≡ g.0 → k < length rs
  unfolding RegisterWithin instruction_told
  INC_within e i =
      let within = rw e at h in
      omega (arith, within)

  pub DEC_within : {u : FlatLine} → x ≡ Dec g u → k ≡ g.0 → k < length rs
  unfolding RegisterWithin instruction_told
  DEC_within e i =
      let within = rw e at h in
      omega (arith, within)

module _ (x : Instruction) (l : ℕ) (rs : Registers) where
  -- at line l, where x stands
  abbrev due : paper.Next ℕ
  due = flat_step l (instruction_told x ∷ []) rs

  module _ {g : Reg} where
    pub INC_stops : x ≡ Inc g → get_or rs g.0 0 ≡ top → record { next = next_told (Err g) rs; left = rs } ≡ did due rs
    unfolding next_told flat_step instruction_told adds_one did value
    INC_stops e full = rw e (ap (λ d. did d rs) (sym (if_true _ _ _ (eq-eqb _ _ full))))

    pub INC_goes_on : {v : ℕ} → x ≡ Inc g → get_or rs g.0 0 ≢ top → v ≡ get_or rs g.0 0 + 1
        → record { next = next_told (Ok (record { 0 = l + 1 })) (set rs g.0 v); left = set rs g.0 v } ≡ did due rs
    unfolding next_told flat_step instruction_told adds_one did value with_value
    INC_goes_on e below f =
        rw (e, f, add-one l, add-one (get_or rs g.0 0)) (ap (λ d. did d rs) (sym (if_false _ _ _ (ne_eqb _ _ below))))

    pub DEC_jumps : {u : FlatLine} → x ≡ Dec g u → get_or rs g.0 0 ≡ 0 → record { next = next_told (Ok u) rs; left = rs } ≡ did due rs
    unfolding next_told flat_step instruction_told takes_one_off takes_one_from did value
    DEC_jumps e none = rw (e, none) refl

    pub DEC_goes_on : {u : FlatLine} {v : ℕ} → x ≡ Dec g u → get_or rs g.0 0 ≢ 0 → v ≡ get_or rs g.0 0 - 1
        → record { next = next_told (Ok (record { 0 = l + 1 })) (set rs g.0 v); left = set rs g.0 v } ≡ did due rs
    unfolding next_told flat_step instruction_told takes_one_off takes_one_from did value with_value
    DEC_goes_on {u} e some f = rw (e, f, add-one l) (one_off (get_or rs g.0 0) some)
      where
        one_off : (w : ℕ) → w ≢ 0
            → record { next = goes_to (suc l) (set rs g.0 (w - 1)); left = set rs g.0 (w - 1) } ≡ did (takes_one_from w g.0 rs (suc l) u.0) rs
        one_off zero n = absurd (n refl)
        one_off (suc w) n =
            let back : suc w - 1 ≡ w = omega arith in
            rw back refl

  pub GO_TO_jumps : {u : FlatLine} → x ≡ GoTo u → record { next = next_told (Ok u) rs; left = rs } ≡ did due rs
  unfolding next_told flat_step instruction_told did
  GO_TO_jumps e = rw e refl
