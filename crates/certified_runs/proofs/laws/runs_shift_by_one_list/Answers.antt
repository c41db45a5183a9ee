use Rattle.certified_runs.proofs.Amounts.{some_amounts, amounts_determined}
use Rattle.certified_runs.proofs.laws.runs_shift_by_one_list.Goals as goal

pub returns : goal.returns
returns c = record {
  some = some_amounts;
  one = λ code budget s amounts others by by'. amounts_determined by by';
}
