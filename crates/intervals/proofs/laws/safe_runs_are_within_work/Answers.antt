use Rattle.intervals.proofs.EvaluatedLemmas as evaluated
use Rattle.intervals.proofs.laws.safe_runs_are_within_work.Goals as goal

pub returns : goal.returns
returns c = evaluated.safe_runs_are_within_work
