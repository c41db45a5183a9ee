use Rattle.hepurita.proofs.grammar_laws_lemmas.ByCases.{by_cases}
use Rattle.hepurita.proofs.grammar_laws.laws.beginnings_are_by_cases.Goals as goal

pub returns : goal.returns
returns c = by_cases
