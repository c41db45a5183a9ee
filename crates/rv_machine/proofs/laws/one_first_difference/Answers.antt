use Rattle.rv_machine.proofs.EntryLaws.{first-unique}
use Rattle.rv_machine.proofs.laws.one_first_difference.Goals as goal

pub returns : goal.returns
returns c = first-unique
