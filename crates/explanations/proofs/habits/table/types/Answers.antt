use Rattle.std.proofs.Common.{refl}
use Rattle.explanations.specs.habits.Habits.{habits}
use Rattle.explanations.proofs.habits.table.types.Goals as goal

pub returns : goal.returns
unfolding habits
returns c = refl
