use Rattle.hepurita.proofs.CallLemmas.{one_reading}
use Rattle.hepurita.proofs.laws.readings_agree.Goals as goal

pub returns : goal.returns
returns c = one_reading
