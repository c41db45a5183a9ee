use Rattle.run_reports.specs.Below.{spent}
use Rattle.run_reports.proofs.run_places_lemmas.Below.{Runs-determined}
use Rattle.run_reports.proofs.run_places.steps.make_steps.Goals as goal

pub returns-clause-there : goal.returns-clause-there
returns-clause-there g c =
    λ seen t led. (Runs-determined c.run.ensures.steps.1 (spent led) (c.run.ensures.ready tt) (λ e. cc)).2
