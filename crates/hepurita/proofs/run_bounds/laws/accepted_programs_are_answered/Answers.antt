use Rattle.hepurita.proofs.run_bounds_lemmas.Answered.{answered}
use Rattle.hepurita.proofs.run_bounds.laws.accepted_programs_are_answered.Goals as goal

pub returns : goal.returns
returns c = answered
