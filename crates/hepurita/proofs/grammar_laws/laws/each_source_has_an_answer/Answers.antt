use Rattle.hepurita.proofs.grammar_laws_lemmas.Existence.{answer_to}
use Rattle.hepurita.proofs.grammar_laws.laws.each_source_has_an_answer.Goals as goal

pub returns : goal.returns
returns c = answer_to
