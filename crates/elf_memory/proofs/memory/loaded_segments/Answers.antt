use Rattle.std.proofs.Common.{[]}
use Rattle.elf_memory.proofs.Filling.{within_at}
use Rattle.elf_memory.proofs.memory.loaded_segments.Goals as goal

pub loaded-requires : goal.loaded-requires
loaded-requires c =
    rw c.segment-item.is
    ((within_at [] c.args.segments.now c.segments.segment-index c.segment-item.result c.requires
    c.segments-test.true).0)
