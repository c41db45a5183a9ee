use Rattle.source_eval.proofs.WorkedOut.{worked-out}
use Rattle.source_eval.proofs.laws.meaning_is_worked_out.Goals as goal

pub returns : goal.returns
returns c = worked-out
