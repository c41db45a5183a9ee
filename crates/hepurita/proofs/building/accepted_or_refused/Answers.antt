use Rattle.hepurita.proofs.JudgementLemmas.{not_both}
use Rattle.hepurita.proofs.building.accepted_or_refused.Goals as goal

pub returns : goal.returns
returns c = λ profile. not_both profile c.one_answer_for_a_source.ensures
