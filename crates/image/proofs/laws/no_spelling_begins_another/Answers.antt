use Rattle.image.proofs.Spellings.{none_begins}
use Rattle.image.proofs.laws.no_spelling_begins_another.Goals as goal

pub returns : goal.returns
returns c = none_begins
