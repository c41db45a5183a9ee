use Rattle.std.proofs.Common.{◌+◌, ◌<◌, ◌≤◌, None, drop, length, append-nil, refl, arith}
use Rattle.std.proofs.lemmas.List.{at_drop_all, drop_more}
use Rattle.straight_words.specs.element_words.private.Parts.{numbered}
use Rattle.straight_words.proofs.element_words.plan.numbered.Goals as goal

pub loop-array-preserved : goal.loop-array-preserved
loop-array-preserved c =
    let l = c.loop-array in
    let all = c.args.parts.now.arrays.items in
    let items = c.deref-array-items.ensures.value in
    let low : l.array-index < length all = rw items at c.loop-array-test.true in
    record {
      within = omega (arith, l.invariant.within, c.in_ok-size.ensures.within);
      left = rw (
        c.in_ok-size.ensures.left (drop (l.array-index + 1) all),
        items,
        ← l.invariant.left,
        drop_more all l.array-index None low,
      ) refl;
    }

pub returns : goal.returns
returns c =
    let l = c.loop-array in
    let all = c.args.parts.now.arrays.items in
    let over : length all ≤ l.array-index = rw c.deref-array-items.ensures.value at c.loop-array-test.false in
    rw (← l.invariant.left, at_drop_all (numbered l.base l.room) all l.array-index over, append-nil) refl
