use Rattle.language.proofs.BlockLemmas.{row_trees}
use Rattle.language.proofs.laws.rows_are_blocks.Goals as goal

pub returns : goal.returns
returns c = row_trees
