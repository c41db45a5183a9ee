use Rattle.std.proofs.Common.{append_assoc, refl}
use Rattle.std.proofs.lemmas.List.{replicate_more}
use Rattle.straight_words.proofs.element_words.plan.push_words.Goals as goal

pub loop-word-preserved : goal.loop-word-preserved
loop-word-preserved c =
    rw (c.in_ok-push.ensures.items, c.loop-word.invariant, append_assoc, replicate_more) refl
