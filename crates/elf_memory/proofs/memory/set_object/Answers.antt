use Rattle.std.proofs.Common.{arith, map, refl}
use Rattle.std.proofs.lemmas.List.{length-map}
use Rattle.elf_memory.specs.Memory.{with_bytes, range_of}
use Rattle.elf_memory.proofs.Filling.{one_changed}
use Rattle.elf_memory.proofs.memory.set_object.Goals as goal

pub each-preserved : goal.each-preserved
each-preserved c =
    let old = map range_of c.args.ranges.now.items in
    let items = c.each.ranges.items in
    let before = c.each.invariant in
    let counted = length-map c.args.ranges.now.items range_of in
    record {
      changed =
          one_changed (with_bytes c.args.object c.args.bytes.now) old items c.each.k c.index_mut-range.result.now _
          (omega (arith, counted, before.all, c.each-test.true)) before.changed c.index_mut-range.ensures.value
          (rw c.put.ensures.items refl);
      count = before.count;
      all = before.all;
    }
