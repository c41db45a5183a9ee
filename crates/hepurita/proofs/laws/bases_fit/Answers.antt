use Rattle.hepurita.proofs.BaseLemmas.{standard_bases}
use Rattle.hepurita.proofs.laws.bases_fit.Goals as goal

pub returns : goal.returns
returns c = standard_bases
