use Rattle.explanations.specs.Listed.{runs}
use Rattle.explanations.specs.Table.{run_texts}
use Rattle.explanations.proofs.rows.runs.row.Goals as goal

pub returns : goal.returns
unfolding runs run_texts
returns c = c.row_of.ensures
