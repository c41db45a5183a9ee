use Rattle.hepurita.proofs.source_work_lemmas.Export.{work_is_that_of_the_body}
use Rattle.hepurita.proofs.source_work.laws.work_is_that_of_the_body.Goals as goal

pub returns : goal.returns
returns c = work_is_that_of_the_body
