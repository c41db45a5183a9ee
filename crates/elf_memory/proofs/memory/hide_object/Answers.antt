use Rattle.std.proofs.Common.{◌≡◌, arith, map, refl, replicate}
use Rattle.std.proofs.lemmas.List.{length-map}
use Rattle.elf_memory.specs.Memory.{with_secret, range_of}
use Rattle.elf_memory.proofs.Filling.{one_changed}
use Rattle.elf_memory.proofs.memory.hide_object.Goals as goal

pub each-preserved : goal.each-preserved
each-preserved c =
    let old = map range_of c.args.ranges.now.items in
    let items = c.each.ranges.items in
    let before = c.each.invariant in
    let counted = length-map c.args.ranges.now.items range_of in
    let all : c.in_ok-part.part.items ≡ replicate c.args.object.size 255 =
    c.in_ok-part.ensures.items_if_clones_equal (λ y same. same) in
    record {
      changed =
          one_changed (with_secret c.args.object) old items c.each.k c.index_mut-range.result.now _
          (omega (arith, counted, before.all, c.each-test.true)) before.changed c.index_mut-range.ensures.value
          (rw (c.put.ensures.items, c.deref.ensures.value, all) refl);
      count = before.count;
      all = before.all;
    }
