use Rattle.explanations.specs.Listed.{names}
use Rattle.explanations.specs.Table.{name_texts}
use Rattle.explanations.proofs.rows.names.row.Goals as goal

pub returns : goal.returns
unfolding names name_texts
returns c = c.row_of.ensures
