use Rattle.hepurita.proofs.grammar_laws_lemmas.HeadPlaces.{heads_in_place}
use Rattle.hepurita.proofs.grammar_laws.laws.heads_are_in_place.Goals as goal

pub returns : goal.returns
returns c = heads_in_place
