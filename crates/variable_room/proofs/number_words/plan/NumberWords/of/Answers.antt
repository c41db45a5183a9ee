use Rattle.std.proofs.Common.{refl}
use Rattle.variable_room.specs.number_words.Exact.{number_words_of}
use Rattle.variable_room.proofs.number_words.plan.NumberWords.of.Goals as goal

pub returns-clause-exact : goal.returns-clause-exact
unfolding number_words_of
returns-clause-exact c = rw (c.in_ok-declared.ensures, c.declared.ensures, c.as_slice.ensures.value, c.in_ok-words.ensures) refl
