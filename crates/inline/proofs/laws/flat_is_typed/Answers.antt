use Rattle.inline.proofs.FlatPrograms.{flat_is_typed}
use Rattle.inline.proofs.laws.flat_is_typed.Goals as goal

pub returns : goal.returns
returns c = flat_is_typed
