use Rattle.certified_runs.proofs.Unknown.{known_alone}
use Rattle.certified_runs.proofs.laws.certified_runs_depend_on_what_is_known.Goals as goal

pub returns : goal.returns
returns c = λ code budget k other seen ending covers registers bytes shifts run.
    known_alone run covers registers bytes shifts
