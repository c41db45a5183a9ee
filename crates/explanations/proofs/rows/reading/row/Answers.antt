use Rattle.explanations.specs.Listed.{reading}
use Rattle.explanations.specs.Table.{reading_texts}
use Rattle.explanations.proofs.rows.reading.row.Goals as goal

pub returns : goal.returns
unfolding reading reading_texts
returns c = c.row_of.ensures
