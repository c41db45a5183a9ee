use Rattle.std.proofs.Common.{◌≡◌, ◌++◌, drop, length, map, take, vec_len}
use Rattle.elf_memory.specs.Memory.{range_of, with_bytes}
use Rattle.elf_memory.proofs.memory.set_object.Given as goal

abbrev pub invariant-each : goal.invariant-each
invariant-each l =
    let old = map range_of l.fn.ranges.items in
    record {
      changed : map range_of l.ranges.items ≡ map (with_bytes l.object l.bytes) (take l.k old) ++ drop l.k old;
      count : l.k-end ≡ vec_len l.ranges;
      all : l.k-end ≡ length l.fn.ranges.items;
    }
