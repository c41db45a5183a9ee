use Rattle.linked_calls.proofs.Zeros.{room_is_wiped}
use Rattle.linked_calls.proofs.laws.room_is_wiped.Goals as goal

pub returns : goal.returns
returns c = room_is_wiped
