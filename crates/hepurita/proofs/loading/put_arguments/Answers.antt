use Rattle.std.proofs.Common.{◌<◌, length, slice_index_or, sym, ◌∙◌, arith}
use Rattle.hepurita.specs.Below.{HasShape}
use Rattle.hepurita.proofs.DataLemmas.{HoldsSlot-same, is_some-with_argument}
use Rattle.hepurita.proofs.LoadLemmas.{no_slot, shape_at, with_arguments-next}
use Rattle.hepurita.proofs.loading.put_arguments.Goals as goal

pub put_argument-requires-clause-shape : goal.put_argument-requires-clause-shape
put_argument-requires-clause-shape g c =
    rw c.index-args-index.is
    (shape_at c.args.slots.now c.args.args.now c.loop-index.index no_slot c.index-args-index.result c.requires.within
    c.loop-index-test.true)

pub put_argument-requires-clause-data : goal.put_argument-requires-clause-data
put_argument-requires-clause-data g c =
    HoldsSlot-same c.args.frame (g.M.Memory.bytes c.args.memory.now) (g.M.Memory.bytes c.loop-index.memory)
    (slice_index_or c.args.slots.now c.loop-index.index no_slot)
    c.loop-index.invariant.data_there (c.requires.data c.loop-index.index no_slot c.loop-index-test.true)

pub loop-index-preserved : goal.loop-index-preserved
loop-index-preserved g c =
    let i = c.loop-index.index in
    let old = g.M.Memory.bytes c.loop-index.memory in
    let slot = slice_index_or c.args.slots.now i no_slot in
    let holds = HoldsSlot-same c.args.frame (g.M.Memory.bytes c.args.memory.now) old slot
    c.loop-index.invariant.data_there (c.requires.data i no_slot c.loop-index-test.true) in
    let shape : HasShape slot.param.form slot.param.length c.index-args-index.result =
    rw c.index-args-index.is
    (shape_at c.args.slots.now c.args.args.now i no_slot c.index-args-index.result c.requires.within
    c.loop-index-test.true) in
    let below : i < length c.args.args.now = omega (arith, c.requires.count, c.loop-index-test.true) in
    record {
      rest = rw (c.put_argument.ensures, c.index-args-index.is)
          (sym (with_arguments-next c.args.frame old c.args.slots.now c.args.args.now i no_slot
          c.index-args-index.result c.loop-index-test.true below)
          ∙ c.loop-index.invariant.rest);
      data_there = λ x. rw c.put_argument.ensures
          (is_some-with_argument c.args.frame old slot holds c.index-args-index.result shape x
          ∙ c.loop-index.invariant.data_there x);
    }
