use Rattle.std.proofs.Common.{◌≡◌, ◌≤◌, ◌+◌, ◌*◌, ◌++◌, drop, length}
use Rattle.functions.specs.Below.{stores_code}
use Rattle.functions.proofs.function_code.pieces.stores.Given as goal

-- the code so far and that of the registers that are left are all of it
abbrev pub invariant-loop-register : goal.invariant-loop-register
invariant-loop-register l = record {
  code : l.code.items ++ stores_code l.base l.place (drop l.register-index l.registers) ≡ l.fn.code.items
      ++ stores_code l.fn.base l.fn.offset l.fn.registers;
  room : l.place + 4 * length (drop l.register-index l.registers) ≤ 4096;
}
