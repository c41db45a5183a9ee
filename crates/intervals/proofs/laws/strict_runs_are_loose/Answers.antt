use Rattle.intervals.proofs.StrictRuns.{strict_is_loose}
use Rattle.intervals.proofs.laws.strict_runs_are_loose.Goals as goal

pub returns : goal.returns
returns c = strict_is_loose
