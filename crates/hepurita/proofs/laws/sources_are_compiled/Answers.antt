use Rattle.hepurita.proofs.TheoremLemmas.{sources_compiled}
use Rattle.hepurita.proofs.laws.sources_are_compiled.Goals as goal

pub returns : goal.returns
returns c = sources_compiled
