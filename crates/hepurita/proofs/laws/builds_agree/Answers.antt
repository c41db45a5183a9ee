use Rattle.hepurita.proofs.OneImage.{one_build}
use Rattle.hepurita.proofs.laws.builds_agree.Goals as goal

pub returns : goal.returns
returns c = one_build c.one_answer_for_a_source.ensures
