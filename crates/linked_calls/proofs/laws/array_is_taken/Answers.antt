use Rattle.linked_calls.proofs.Copies.{array_is_taken}
use Rattle.linked_calls.proofs.laws.array_is_taken.Goals as goal

pub returns : goal.returns
returns c = array_is_taken
