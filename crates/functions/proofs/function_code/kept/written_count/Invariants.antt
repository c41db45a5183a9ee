use Rattle.std.proofs.Common.{◌≡◌, ◌≤◌, ◌+◌, drop, length}
use Rattle.functions.specs.Below.{written_of}
use Rattle.functions.proofs.function_code.kept.written_count.Given as goal

-- those so far, and those of the registers that are left, are all of them
abbrev pub invariant-loop-register : goal.invariant-loop-register
invariant-loop-register l = record {
  all : l.count + length (written_of l.fn.words (drop l.register-index l.registers))
      ≡ length (written_of l.fn.words l.fn.registers);
  few : l.count + length (drop l.register-index l.registers) ≤ length l.fn.registers;
}
