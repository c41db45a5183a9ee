use Rattle.run_reports.proofs.run_places_lemmas.Openings.{difference_reached}
use Rattle.run_reports.proofs.run_places.laws.a_difference_is_reached.Goals as goal

pub returns : goal.returns
returns c = difference_reached
