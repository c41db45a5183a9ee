use Rattle.linked_calls.proofs.SectionLemmas.{words_of_sections}
use Rattle.linked_calls.proofs.laws.sections_are_the_function.Goals as goal

pub returns : goal.returns
returns c = words_of_sections
