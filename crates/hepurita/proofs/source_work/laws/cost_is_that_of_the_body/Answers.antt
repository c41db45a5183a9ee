use Rattle.hepurita.proofs.source_work_lemmas.Export.{cost_is_that_of_the_body}
use Rattle.hepurita.proofs.source_work.laws.cost_is_that_of_the_body.Goals as goal

pub returns : goal.returns
returns c = cost_is_that_of_the_body
