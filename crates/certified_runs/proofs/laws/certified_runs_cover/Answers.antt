use Rattle.certified_runs.proofs.Runs.{same_run, every_run}
use Rattle.certified_runs.proofs.laws.certified_runs_cover.Goals as goal

pub returns : goal.returns
returns c = record {
  some = λ code budget k s seen stop run covers. same_run run covers;
  every = λ code budget k s t seen shown stop other run covers ran quiet.
      every_run run covers ran quiet;
}
