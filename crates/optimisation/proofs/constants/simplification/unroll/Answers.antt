use Rattle.std.proofs.Common.{refl, ap}
use Rattle.optimisation.specs.constants.Exact.{unrolled_of}
use Rattle.optimisation.specs.constants.private.Choice.{Chosen}
use Rattle.optimisation.proofs.constants.simplification.unroll.Goals as goal

pub returns-clause-exact : goal.returns-clause-exact
unfolding unrolled_of
returns-clause-exact c =
    rw (
      c.in_ok-simpler.ensures.exact,
      c.as_slice.ensures.value,
      ap (λ (so_far : Chosen). so_far.unroll_limits) c.in_ok-choice.ensures,
    ) refl
