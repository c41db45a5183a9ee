use Rattle.std.proofs.Common.{◌≡◌, suc, ◌+◌, ◌-◌, refl, arith, append_assoc}
use Rattle.straight_words.proofs.live_words.choice.own_variables.Goals as goal

pub loop-word-preserved : goal.loop-word-preserved
loop-word-preserved c =
    let x = c.loop-word.word in
    let more : c.args.width - x ≡ suc (c.args.width - (x + 1)) = omega (arith, c.loop-word-test.true) in
    rw (c.in_ok-push.ensures.items, append_assoc, ← c.loop-word.invariant, more) refl
