use Rattle.std.proofs.Common.{◌≡◌, ◌+◌, drop}
use Rattle.elf_runs.specs.Below.{memory_of, most_memory}
use Rattle.elf_runs.proofs.stack.fits.Given as goal

abbrev pub invariant-segments : goal.invariant-segments
invariant-segments l =
    memory_of l.segments + l.stack + l.room ≡ memory_of (drop l.segment-index l.segments) + most_memory
