use Rattle.hepurita.proofs.RefusalLemmas.{one_refusal_for}
use Rattle.hepurita.proofs.building.one_refusal.Goals as goal

pub returns : goal.returns
returns c = λ profile. one_refusal_for profile c.one_answer_for_a_source.ensures
