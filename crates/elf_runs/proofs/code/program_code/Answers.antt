use Rattle.std.proofs.Common.{[]}
use Rattle.elf_memory.proofs.Filling.{within_at}
use Rattle.elf_runs.proofs.code.program_code.Goals as goal

pub code_of-requires : goal.code_of-requires
code_of-requires c =
    rw c.segment-item.is
    (within_at [] c.segments-segment-items.result.now c.each.segment-index c.segment-item.result
    c.segments-segment-items.ensures.apart c.each-test.true)
