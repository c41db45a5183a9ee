use Rattle.inline.proofs.FlatMeanings.{flat_keeps_meaning}
use Rattle.inline.proofs.laws.flat_keeps_meaning.Goals as goal

pub returns : goal.returns
returns c = flat_keeps_meaning
