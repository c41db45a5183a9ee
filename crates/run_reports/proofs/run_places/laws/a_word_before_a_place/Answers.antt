use Rattle.run_reports.proofs.run_places_lemmas.Openings.{word_before}
use Rattle.run_reports.proofs.run_places.laws.a_word_before_a_place.Goals as goal

pub returns : goal.returns
returns c = word_before
