use Rattle.linked_calls.proofs.Copies.{array_is_handed_back}
use Rattle.linked_calls.proofs.laws.array_is_handed_back.Goals as goal

pub returns : goal.returns
returns c = array_is_handed_back
