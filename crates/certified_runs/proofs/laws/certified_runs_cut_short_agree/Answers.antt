use Rattle.certified_runs.proofs.Runs.{steps_before}
use Rattle.certified_runs.proofs.laws.certified_runs_cut_short_agree.Goals as goal

pub returns : goal.returns
returns c = λ code budget k s seen pc run covers. steps_before run covers
