use Rattle.std.proofs.Common.{refl}
use Rattle.straight_words.specs.element_words.Exact.{words_of}
use Rattle.straight_words.proofs.element_words.plan.ElementWords.of.Goals as goal

pub returns-clause-exact : goal.returns-clause-exact
unfolding words_of
returns-clause-exact c = rw (c.in_ok-declared.ensures, c.declared.ensures, c.in_ok-parts.ensures) refl
