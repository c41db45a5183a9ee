use Rattle.std.proofs.Common.{◌≡◌, map, take}
use Rattle.elf_memory.specs.Memory.{loaded, range_of}
use Rattle.elf_memory.proofs.memory.loaded_segments.Given as goal

abbrev pub invariant-segments : goal.invariant-segments
invariant-segments l = map range_of l.ranges.items ≡ map loaded (take l.segment-index l.segments)
