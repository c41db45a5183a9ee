use Rattle.certified_runs.proofs.Runs.{leads_kept, stop_kept}
use Rattle.certified_runs.proofs.laws.steps_keep_covering.Goals as goal

pub returns : goal.returns
returns c = record {
  leads_on = λ code k next s o step covers. leads_kept code k s covers o next step;
  ends = λ code k s seen stop step covers. stop_kept code k s covers seen stop step;
}
