use Rattle.std.proofs.Common.{◌≡◌, ◌++◌, drop}
use Rattle.functions.specs.Below.{clear_registers_code}
use Rattle.functions.proofs.function_code.pieces.clear_registers.Given as goal

abbrev pub invariant-loop-register : goal.invariant-loop-register
invariant-loop-register l =
    l.code.items ++ clear_registers_code (drop l.register-index l.registers) ≡ l.fn.code.items
    ++ clear_registers_code l.fn.registers
