use Rattle.explanations.specs.Listed.{inputs}
use Rattle.explanations.specs.Table.{input_texts}
use Rattle.explanations.proofs.rows.inputs.row.Goals as goal

pub returns : goal.returns
unfolding inputs input_texts
returns c = c.row_of.ensures
