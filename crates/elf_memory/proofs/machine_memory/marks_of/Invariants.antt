use Rattle.std.proofs.Common.{◌≡◌, ℕ, drop, map}
use Rattle.elf_memory.specs.Memory.{range_of, RangeState}
use Rattle.elf_memory.specs.Below.{paged_bytes}
use Rattle.elf_memory.specs.Ranges.{item_at}
use Rattle.elf_memory.proofs.machine_memory.marks_of.Given as goal

abbrev pub invariant-each : goal.invariant-each
invariant-each l =
    (a : ℕ) → paged_bytes l.memory a
    ≡ item_at (λ (range : RangeState). range.unknown) (map range_of (drop l.k l.ranges)) a
