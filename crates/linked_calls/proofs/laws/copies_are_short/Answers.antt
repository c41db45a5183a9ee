use Rattle.linked_calls.proofs.CopyLengths.{copies_are_short}
use Rattle.linked_calls.proofs.laws.copies_are_short.Goals as goal

pub returns : goal.returns
returns c = copies_are_short
