use Rattle.explanations.specs.Listed.{types}
use Rattle.explanations.specs.Table.{type_texts}
use Rattle.explanations.proofs.rows.types.row.Goals as goal

pub returns : goal.returns
unfolding types type_texts
returns c = c.row_of.ensures
