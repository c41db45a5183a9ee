use Rattle.certified_runs.proofs.OneEnd.{one_end, some_end}
use Rattle.certified_runs.proofs.laws.certified_runs_have_one_end.Goals as goal

pub returns : goal.returns
returns c = record {
  some = some_end;
  one = λ code budget k seen shown ending other run run'. one_end run run';
}
