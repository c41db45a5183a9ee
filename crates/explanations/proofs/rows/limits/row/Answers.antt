use Rattle.explanations.specs.Listed.{limits}
use Rattle.explanations.specs.Table.{limit_texts}
use Rattle.explanations.proofs.rows.limits.row.Goals as goal

pub returns : goal.returns
unfolding limits limit_texts
returns c = c.row_of.ensures
