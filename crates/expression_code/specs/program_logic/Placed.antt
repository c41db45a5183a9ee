-- Instructions that stand in code.
use Rattle.std.specs.Prelude.{◌≡◌, ℕ, ◌+◌, ◌%◌, ◌^◌, ◌<◌, List, [], ◌∷◌, Some}
use Rattle.expression_code.specs.Below.{MachineCode, Instr, word_at, word_of}

-- the words of these instructions stand at an address and after it
abbrev pub Placed : MachineCode → ℕ → List Instr → Type 0
Placed code p [] = Unit {0}
Placed code p (i ∷ is) = (p % 4 ≡ 0) × (p + 4 < 2 ^ 32) × (word_at code p ≡ Some (word_of i)) × Placed code (p + 4) is
