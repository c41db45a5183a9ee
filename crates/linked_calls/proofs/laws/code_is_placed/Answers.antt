use Rattle.linked_calls.proofs.Distances.{code_is_placed}
use Rattle.linked_calls.proofs.laws.code_is_placed.Goals as goal

pub returns : goal.returns
returns c = code_is_placed
