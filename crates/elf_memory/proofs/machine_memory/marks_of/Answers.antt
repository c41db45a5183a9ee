use Rattle.std.proofs.Common.{◌-◌, arith}
use Rattle.elf_memory.specs.Below.{paged_bytes}
use Rattle.elf_memory.specs.Memory.{RangeState}
use Rattle.elf_memory.proofs.Ranges.{item_more}
use Rattle.elf_memory.proofs.machine_memory.marks_of.Goals as goal

pub each-preserved : goal.each-preserved
each-preserved c = λ a.
    item_more (λ (range : RangeState). range.unknown) c.args.ranges.now (c.each.k - 1) c.each.k c.index-ranges-k.result
    (paged_bytes c.each.memory) (paged_bytes c.add.new.self) c.len-size.result a (omega arith) (omega arith)
    c.index-ranges-k.is (omega (arith, c.len-size.ensures)) (rw c.as_slice.ensures.value at (c.in_ok-add.ensures.added a))
    (c.each.invariant a)
