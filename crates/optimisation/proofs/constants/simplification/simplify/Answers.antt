use Rattle.optimisation.specs.constants.Exact.{simplified_of}
use Rattle.optimisation.proofs.constants.simplification.simplify.Goals as goal

pub returns-clause-exact : goal.returns-clause-exact
unfolding simplified_of
returns-clause-exact c = c.in_ok-simpler.ensures.exact
