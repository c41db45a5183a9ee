use Rattle.linked_calls.proofs.Copier.{copier_copies}
use Rattle.linked_calls.proofs.laws.copier_copies.Goals as goal

pub returns : goal.returns
returns c = copier_copies
