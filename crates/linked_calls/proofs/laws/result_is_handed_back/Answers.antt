use Rattle.linked_calls.proofs.Words.{result_is_handed_back}
use Rattle.linked_calls.proofs.laws.result_is_handed_back.Goals as goal

pub returns : goal.returns
returns c = result_is_handed_back
