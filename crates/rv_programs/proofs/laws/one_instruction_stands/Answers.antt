use Rattle.rv_programs.proofs.Standing.{one_stands, stands_in_range}
use Rattle.rv_programs.proofs.laws.one_instruction_stands.Goals as goal

pub returns : goal.returns
returns c = record {
  one = λ code p i j length other. one_stands;
  in_range = λ code p i length. stands_in_range;
}
