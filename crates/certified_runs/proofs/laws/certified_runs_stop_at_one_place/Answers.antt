use Rattle.certified_runs.proofs.Runs.{stops_there}
use Rattle.certified_runs.proofs.laws.certified_runs_stop_at_one_place.Goals as goal

pub returns : goal.returns
returns c = λ program n k now s seen last stop run step covers. stops_there run step covers
