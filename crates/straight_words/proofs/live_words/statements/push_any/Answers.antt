use Rattle.std.proofs.Common.{refl}
use Rattle.straight_words.proofs.live_words_lemmas.Backwards.{onto-push}
use Rattle.straight_words.proofs.live_words.statements.push_any.Goals as goal

pub returns-in_ok-push : goal.returns-in_ok-push
returns-in_ok-push c = rw (c.in_ok-push.ensures.items, onto-push, c.in-Some.is) refl
