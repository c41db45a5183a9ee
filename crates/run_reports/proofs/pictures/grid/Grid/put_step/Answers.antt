use Rattle.run_reports.proofs.pictures_lemmas.Filled.{adds_then}
use Rattle.run_reports.proofs.pictures.grid.Grid.put_step.Goals as goal

pub returns-clause-put : goal.returns-clause-put
returns-clause-put c = adds_then c.put_shown.ensures.axes c.put_shown.ensures.put c.put_shown-2.ensures.put
