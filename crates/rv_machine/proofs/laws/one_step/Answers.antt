use Rattle.rv_machine.proofs.RunLaws.{Step-determined}
use Rattle.rv_machine.proofs.laws.one_step.Goals as goal

pub returns : goal.returns
returns c = λ code s e f. Step-determined
