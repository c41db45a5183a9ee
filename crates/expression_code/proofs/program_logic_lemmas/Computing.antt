-- Code that only computes: straight-line code without accesses. What it makes of the registers is a function of them.
use Rattle.std.proofs.Common.{◌≡◌, ℕ, ◌*◌, ◌^◌, Bool, true, false, ◌&&◌, cond, List, [], ◌∷◌, ◌++◌, Option, None, refl}
use Rattle.std.proofs.Common.{sym, ap, ◌∙◌}
use Rattle.std.proofs.lemmas.Bool.{false≢true}
use Rattle.std.specs.Cmp.Derive.{both_true}
use Rattle.expression_code.proofs.program_logic_lemmas.StraightRuns.{both_left, both_right}
use Rattle.expression_code.proofs.program_logic_lemmas.Symbols.{register_kept}
use Rattle.expression_code.specs.program_logic.StraightCode.{Contents, is_straight, are_straight, after, after_all}
use Rattle.expression_code.specs.program_logic.StraightCode.{AreFit}
use Rattle.expression_code.specs.program_logic.StraightCode.{AreMet}
use Rattle.expression_code.specs.Below.{Event, Immediate, immediate_value, Instr, Load, Lui, Register, register}
use Rattle.expression_code.specs.Below.{register_value}
use Rattle.expression_code.specs.Below.{Shift, shift_value, sign_extended, Store, Upper, with_register}

-- the register that an instruction writes, where it only computes
abbrev pub written_register : Instr → ℕ
written_register (Upper operation rd immediate) = rd
written_register (Immediate operation rd rs1 immediate) = rd
written_register (Shift operation rd rs1 amount) = rd
written_register (Register operation rd rs1 rs2) = rd
written_register _ = 0

-- what it writes there
abbrev pub computed_value : Instr → (ℕ → ℕ) → ℕ
computed_value (Upper operation rd immediate) regs = immediate * 2 ^ 12
computed_value (Immediate operation rd rs1 immediate) regs =
    immediate_value operation (register regs rs1) (sign_extended 12 immediate)
computed_value (Shift operation rd rs1 amount) regs = shift_value operation (register regs rs1) amount
computed_value (Register operation rd rs1 rs2) regs = register_value operation (register regs rs1) (register regs rs2)
computed_value _ regs = 0

-- the registers after instructions that only compute
abbrev pub registers_after : List Instr → (ℕ → ℕ) → ℕ → ℕ
registers_after [] regs = regs
registers_after (i ∷ is) regs = registers_after is (with_register regs (written_register i) (computed_value i regs))

abbrev pub is_access : Instr → Bool
is_access (Load operation rd rs1 offset) = true
is_access (Store operation rs2 rs1 offset) = true
is_access _ = false

-- an instruction that only computes into registers that work, with its fields in range
abbrev pub computes : (ℕ → Bool) → Instr → Bool
computes works i = cond (is_access i) false (is_straight works i)

abbrev pub only_computes : (ℕ → Bool) → List Instr → Bool
only_computes works [] = true
only_computes works (i ∷ is) = computes works i && only_computes works is

pub computing_straight : (works : ℕ → Bool) (i : Instr) → computes works i ≡ true → is_straight works i ≡ true
computing_straight works (Load operation rd rs1 offset) h = absurd (false≢true h)
computing_straight works (Store operation rs2 rs1 offset) h = absurd (false≢true h)
computing_straight works i h = h

pub all_straight : (works : ℕ → Bool) (is : List Instr) → only_computes works is ≡ true → are_straight works is ≡ true
all_straight works [] h = refl
all_straight works (i ∷ is) h =
    both_true (computing_straight works i (both_left _ _ h)) (all_straight works is (both_right _ _ h))

-- Instructions that compute have no access, and their results are those that are written.

module _ (works : ℕ → Bool) where
  pub registers_of : (is : List Instr) (c : Contents) → only_computes works is ≡ true
      → after_all is [] c ≡ record { regs = registers_after is c.regs; bytes = c.bytes }
  registers_of [] c h = refl
  registers_of (Upper Lui rd immediate ∷ is) c h = registers_of is _ (both_right _ _ h)
  registers_of (Immediate operation rd rs1 immediate ∷ is) c h = registers_of is _ (both_right _ _ h)
  registers_of (Shift operation rd rs1 amount ∷ is) c h = registers_of is _ (both_right _ _ h)
  registers_of (Register operation rd rs1 rs2 ∷ is) c h = registers_of is _ (both_right _ _ h)
  registers_of (i ∷ is) c h = absurd (false≢true h)

  pub no_access : (Allows : Option Event → Type 0) (is : List Instr) → only_computes works is ≡ true
      → AreFit Allows is [] × ((c : Contents) → AreMet is [] c)
  no_access Allows [] h = (tt, λ c. tt)
  no_access Allows (Load operation rd rs1 offset ∷ is) h = absurd (false≢true h)
  no_access Allows (Store operation rs2 rs1 offset ∷ is) h = absurd (false≢true h)
  no_access Allows (i ∷ is) h =
      let rest = no_access Allows is (both_right (computes works i) (only_computes works is) h) in
      (rest.0, λ c. rest.1 (after i 0 c))

-- a register that none of them may write is as it was
pub register_left : (works : ℕ → Bool) (is : List Instr) (regs : ℕ → ℕ) (q : ℕ) → only_computes works is ≡ true
    → works q ≡ false → registers_after is regs q ≡ regs q
register_left works is regs q h other =
    let c : Contents = record { regs = regs; bytes = λ a. None } in
    ap (λ (d : Contents). d.regs q) (sym (registers_of works is c h))
    ∙ register_kept works is [] c q (all_straight works is h) other

-- One list, and then another.

pub plain_append : (works : ℕ → Bool) (xs ys : List Instr) → only_computes works xs ≡ true
    → only_computes works ys ≡ true → only_computes works (xs ++ ys) ≡ true
plain_append works [] ys one two = two
plain_append works (x ∷ xs) ys one two =
    both_true (both_left _ _ one) (plain_append works xs ys (both_right _ _ one) two)

pub after_append : (xs ys : List Instr) (regs : ℕ → ℕ)
    → registers_after (xs ++ ys) regs ≡ registers_after ys (registers_after xs regs)
after_append [] ys regs = refl
after_append (x ∷ xs) ys regs = after_append xs ys (registers_after (x ∷ []) regs)
