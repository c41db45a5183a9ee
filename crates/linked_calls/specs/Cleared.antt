-- The registers that a call clears behind its body.
use Rattle.std.specs.Prelude.{◌≡◌, ◌≢◌, ℕ, List, length, All, Option, None}
use Rattle.linked_calls.specs.Convention.{scratch_registers}
use Rattle.linked_calls.specs.FunctionCode.{clear_registers_code}
use Rattle.linked_calls.specs.Does.{Data, Does, AreThere}
use Rattle.linked_calls.specs.Below.{MachineCode, Event}

-- no access at all
abbrev pub IsSilent : ℕ → Option Event → Type 0
IsSilent sp event = event ≡ None

-- these registers are 0, and nothing else has changed
pub record AreCleared (rs : List ℕ) (s t : Data) : Type 0 where
  pub zero : All (λ r. t.regs r ≡ 0) rs
  pub others : (q : ℕ) → All (λ r. q ≢ r) rs → t.regs q ≡ s.regs q
  pub bytes : t.bytes ≡ s.bytes

-- the code that clears the registers which a function may change does so from any state
abbrev pub RegistersAreCleared : Type 0
RegistersAreCleared =
    (code : MachineCode) (start : ℕ)
    → AreThere code start (clear_registers_code scratch_registers)
    → Does code start (clear_registers_code scratch_registers) (length scratch_registers)
    IsSilent (λ s. Unit {0}) (AreCleared scratch_registers)
