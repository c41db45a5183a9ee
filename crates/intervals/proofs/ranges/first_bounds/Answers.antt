use Rattle.std.proofs.Common.{◌≡◌, ◌++◌, ◌-◌, None, replicate, length, map, ap, ap₂, ◌∙◌, arith}
use Rattle.intervals.specs.Ranges.{bound_of}
use Rattle.intervals.proofs.BoundLemmas.{one_more}
use Rattle.intervals.proofs.ranges.first_bounds.Goals as goal

pub loop-preserved : goal.loop-preserved
loop-preserved c = record {
  bounds = c.in_ok-push.ensures.items
      ∙ one_more c.loop.bounds.items c.in_ok-bounds.bounds.items None (length c.parameters-parameters.result.now)
      c.loop.counter (omega (arith, c.loop.auto)) c.loop.invariant.bounds;
  few = omega (arith, c.loop.auto, c.loop-test.true);
}

pub returns : goal.returns
returns c =
    let p = c.args.flat.now in
    let ones = c.in_ok-bounds.ensures ∙ ap (map bound_of) c.parameters-parameters.ensures in
    let few = ap length c.parameters-parameters.ensures in
    let all = ap length c.declared-end.ensures in
    let count : c.loop.counter - length c.parameters-parameters.result.now ≡ length p.declared - length p.parameters =
    omega (arith, c.loop.auto, c.loop-test.false, c.loop.invariant.few, few, all) in
    c.loop.invariant.bounds ∙ ap₂ (λ xs n. xs ++ replicate n None) ones count
