use Rattle.hepurita.proofs.EvalLemmas.{evaluated}
use Rattle.hepurita.proofs.laws.accepted_sources_are_evaluated.Goals as goal

pub returns : goal.returns
returns c = evaluated c.faultless_arguments.ensures.none
