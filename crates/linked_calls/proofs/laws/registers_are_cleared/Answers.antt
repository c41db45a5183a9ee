use Rattle.linked_calls.proofs.Cleared.{registers_are_cleared}
use Rattle.linked_calls.proofs.laws.registers_are_cleared.Goals as goal

pub returns : goal.returns
returns c = registers_are_cleared
