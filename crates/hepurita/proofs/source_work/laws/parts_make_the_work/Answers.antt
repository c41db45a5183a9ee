use Rattle.hepurita.proofs.source_work_lemmas.Parts.{parts_make_the_work}
use Rattle.hepurita.proofs.source_work.laws.parts_make_the_work.Goals as goal

pub returns : goal.returns
returns c = parts_make_the_work
