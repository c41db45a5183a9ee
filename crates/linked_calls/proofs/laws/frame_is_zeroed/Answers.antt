use Rattle.linked_calls.proofs.Zeros.{frame_is_zeroed}
use Rattle.linked_calls.proofs.laws.frame_is_zeroed.Goals as goal

pub returns : goal.returns
returns c = frame_is_zeroed
