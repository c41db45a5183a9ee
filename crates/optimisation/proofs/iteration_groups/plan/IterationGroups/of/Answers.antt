use Rattle.std.proofs.Common.{refl}
use Rattle.optimisation.specs.iteration_groups.Exact.{groups_for}
use Rattle.optimisation.proofs.iteration_groups.plan.IterationGroups.of.Goals as goal

pub returns-clause-exact : goal.returns-clause-exact
unfolding groups_for
returns-clause-exact c =
    rw (c.in_ok-declared.ensures, c.declared.ensures, c.base_behind-base.ensures, c.declared-2.ensures) refl
