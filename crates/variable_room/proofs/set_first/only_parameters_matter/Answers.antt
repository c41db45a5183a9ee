use Rattle.variable_room.proofs.set_first_lemmas.Alike.{only_parameters}
use Rattle.variable_room.proofs.set_first.only_parameters_matter.Goals as goal

pub returns : goal.returns
returns c = λ p one other sets agree. only_parameters p one other sets agree
