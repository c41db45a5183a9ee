use Rattle.explanations.specs.Listed.{labels}
use Rattle.explanations.specs.Table.{label_texts}
use Rattle.explanations.proofs.rows.secrecy.row.Goals as goal

pub returns : goal.returns
unfolding labels label_texts
returns c = c.row_of.ensures
