use Rattle.explanations.specs.Listed.{executables}
use Rattle.explanations.specs.Table.{executable_texts}
use Rattle.explanations.proofs.rows.executables.row.Goals as goal

pub returns : goal.returns
unfolding executables executable_texts
returns c = c.row_of.ensures
