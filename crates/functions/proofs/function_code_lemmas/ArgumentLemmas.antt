-- The registers of arguments.
use Rattle.std.specs.Prelude.{take}
use Rattle.std.proofs.Common.{◌≡◌, ℕ, ◌≤◌, length}
use Rattle.std.proofs.lemmas.List.{length-take-le}
use Rattle.functions.specs.Below.{argument_registers}

-- the first of them
pub registers_taken : (n : ℕ) → n ≤ 8 → length (take n argument_registers) ≡ n
registers_taken n few = length-take-le n argument_registers few
