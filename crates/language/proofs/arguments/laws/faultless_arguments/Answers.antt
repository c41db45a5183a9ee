use Rattle.language.proofs.arguments_lemmas.FaultLemmas.{fault_of-None, length-AreWithin}
use Rattle.language.proofs.arguments.laws.faultless_arguments.Goals as goal

pub returns-clause-none : goal.returns-clause-none
returns-clause-none c = fault_of-None

pub returns-clause-count : goal.returns-clause-count
returns-clause-count c = length-AreWithin
