use Rattle.inline.proofs.FlatSizes.{flat_is_sized}
use Rattle.inline.proofs.laws.flat_is_sized.Goals as goal

pub returns : goal.returns
returns c = flat_is_sized
