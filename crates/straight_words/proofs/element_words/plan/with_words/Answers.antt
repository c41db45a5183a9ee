use Rattle.std.proofs.Common.{◌<◌, ◌≤◌, None, length, append_assoc, append-nil, refl}
use Rattle.std.proofs.lemmas.List.{at_drop_all, at_drop_more}
use Rattle.straight_words.specs.element_words.private.Parts.{all_words}
use Rattle.straight_words.proofs.element_words.plan.with_words.Goals.{in-Some+in_ok-push_words, in_default}
use Rattle.straight_words.proofs.element_words.plan.with_words.Goals as goal

pub loop-part-preserved : goal.loop-part-preserved
loop-part-preserved c =
    let l = c.loop-part in
    let all = c.args.parts.now.arrays.items in
    let items = c.deref-part-items.ensures.value in
    let low : l.part-index < length all = rw items at c.loop-part-test.true in
    let here = at_drop_more all_words all l.part-index None low in
    elim c.match-part.branch [
      | in-Some+in_ok-push_words w ↦
          let some = rw items at w.in-Some.is in
          rw (w.declared-is, w.in_ok-push_words.ensures, append_assoc, ← l.invariant, here, some) refl
      | in_default w ↦
          let none = rw items at w.in_default.is in
          rw (w.declared-is, ← l.invariant, here, none) refl
    ]

pub returns : goal.returns
returns c =
    let l = c.loop-part in
    let all = c.args.parts.now.arrays.items in
    let over : length all ≤ l.part-index = rw c.deref-part-items.ensures.value at c.loop-part-test.false in
    rw (← l.invariant, at_drop_all all_words all l.part-index over, append-nil) refl
