use Rattle.hepurita.proofs.grammar_laws_lemmas.TokenPlaces.{placed}
use Rattle.hepurita.proofs.grammar_laws.laws.offsets_decide_places.Goals as goal

pub returns : goal.returns
returns c = placed
