use Rattle.std.proofs.Common.{◌≡◌, ℕ, map, take}
use Rattle.elf_memory.specs.Below.{lies_within}
use Rattle.elf_memory.specs.Memory.{range_of}
use Rattle.elf_memory.specs.Ranges.{may_be_stored_to}
use Rattle.elf_memory.proofs.machine_memory.variable_ranges.Given as goal

abbrev pub invariant-each : goal.invariant-each
invariant-each l =
    (a : ℕ) → lies_within l.variable.items a ≡ may_be_stored_to (map range_of (take l.range-index l.ranges)) a
