use Rattle.run_reports.proofs.run_places_lemmas.Parting.{one_last_step}
use Rattle.run_reports.proofs.run_places.laws.one_step_before_a_difference.Goals as goal

pub returns : goal.returns
returns c = one_last_step
