use Rattle.language.proofs.GreatestLemmas.{none_empty, some_first}
use Rattle.language.proofs.laws.largest_is_first_of_greatest.Goals as goal

pub returns-clause-some : goal.returns-clause-some
returns-clause-some c = some_first

pub returns-clause-none : goal.returns-clause-none
returns-clause-none c = none_empty
