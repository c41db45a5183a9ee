use Rattle.std.proofs.Common.{◌+◌, ap, ◌∙◌, arith}
use Rattle.hepurita.specs.Below.{byte_count}
use Rattle.hepurita.proofs.ElementLemmas.{numbers_at-more}
use Rattle.hepurita.proofs.elements.numbers.Goals as goal

pub loop-index-preserved : goal.loop-index-preserved
loop-index-preserved g c =
    let i = c.loop-index.index in
    let size = byte_count c.args.size in
    let bytes = g.M.Memory.bytes c.args.memory.now in
    record {
      so_far = rw (
        c.push_reserved.ensures.items,
        c.loop-index.invariant.so_far,
        c.unwrap_or.ensures,
        c.load-number.ensures.number,
        c.bytes-step.ensures,
      )
          (numbers_at-more bytes size c.args.at i);
      len = c.push_reserved.ensures.len ∙ ap (λ n. n + 1) c.loop-index.invariant.len;
      enough = omega (arith, c.push_reserved.ensures.capacity, c.loop-index.invariant.enough);
    }
