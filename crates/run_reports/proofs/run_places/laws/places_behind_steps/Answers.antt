use Rattle.run_reports.proofs.run_places_lemmas.Runs.{later_place}
use Rattle.run_reports.proofs.run_places.laws.places_behind_steps.Goals as goal

pub returns : goal.returns
returns c = later_place
