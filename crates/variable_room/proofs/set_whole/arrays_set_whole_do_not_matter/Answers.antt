use Rattle.variable_room.proofs.set_whole_lemmas.Arguments.{do_not_matter}
use Rattle.variable_room.proofs.set_whole.arrays_set_whole_do_not_matter.Goals as goal

pub returns : goal.returns
returns c = λ p args others typed one other agree. do_not_matter p args others typed one other agree
