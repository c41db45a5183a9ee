use Rattle.certified_runs.proofs.FirstEntry.{entries_in_common}
use Rattle.certified_runs.proofs.laws.runs_that_may_differ_begin_alike.Goals as goal

pub returns : goal.returns
returns c = λ code budget k s t seen shown stop pc run covers ran quiet. entries_in_common run covers ran quiet
