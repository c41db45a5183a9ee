use Rattle.std.proofs.Common.{◌≡◌, suc, ◌+◌, ◌-◌, refl, arith}
use Rattle.straight_words.proofs.live_words.choice.merge.Goals as goal

pub loop-other-preserved : goal.loop-other-preserved
loop-other-preserved c =
    let y = c.loop-other.other in
    let more : c.args.width - y ≡ suc (c.args.width - (y + 1)) = omega (arith, c.loop-other-test.true) in
    rw (
      c.note_where.ensures,
      c.is_conflict-both.ensures,
      c.deref.ensures.value,
      ← c.loop-other.invariant,
      more,
    ) refl
