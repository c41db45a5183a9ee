use Rattle.word.proofs.laws.masks_select.Goals as goal
use Rattle.word.proofs.Selection.{by_condition}

pub returns : goal.returns
returns c = by_condition
