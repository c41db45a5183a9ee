use Rattle.hepurita.proofs.Existence.{each_judged}
use Rattle.hepurita.proofs.building.each_source_is_judged.Goals as goal

pub returns : goal.returns
returns c = each_judged
