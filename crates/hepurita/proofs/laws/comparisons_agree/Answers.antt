use Rattle.hepurita.proofs.CallLemmas.{one_comparison}
use Rattle.hepurita.proofs.laws.comparisons_agree.Goals as goal

pub returns : goal.returns
returns c = one_comparison
