use Rattle.hepurita.proofs.Compilations.{spelled}
use Rattle.hepurita.proofs.laws.compilations_are_spelled.Goals as goal

pub returns : goal.returns
returns c = spelled
