use Rattle.std.proofs.Common.{◌≡◌, ◌∷◌, suc, ◌+◌, length, ap, ◌∙◌, append_assoc, arith}
use Rattle.std.specs.Vec.Iter.{into_iter_items}
use Rattle.hepurita.specs.Below.{numbers_at}
use Rattle.hepurita.specs.Frames.{elements_in}
use Rattle.hepurita.proofs.results.arrays.Goals as goal

pub loop-one-preserved : goal.loop-one-preserved
loop-one-preserved g c =
    let at = c.loop-one in
    let one = c.in-Some.one in
    let left = into_iter_items c.next.new.self in
    let bytes = g.M.Memory.bytes c.args.memory.now in
    let steps : into_iter_items at.one-iterator ≡ one ∷ left = c.in-Some.ensures.steps.0 in
    let all = rw steps at at.invariant.each in
    let words : c.new.result ≡ elements_in c.args.frame bytes one.slot =
    c.new.ensures
    ∙ (c.numbers-words.ensures
    ∙ ap (λ n. numbers_at bytes n (c.args.frame + one.slot.offset) one.slot.param.length)
    c.element_size-size.ensures) in
    record {
      rest = rw (c.push_reserved.ensures.items, words, append_assoc) (rw steps at at.invariant.rest);
      each = λ k d below. all (suc k) d (omega (arith, below));
      len = omega (arith, at.invariant.len, c.in-Some.ensures.steps.1, ap length steps);
      enough = omega (
        arith,
        at.invariant.enough,
        c.in-Some.ensures.steps.1,
        c.push_reserved.ensures.len,
        c.push_reserved.ensures.capacity,
      );
    }
