use Rattle.std.proofs.Common.{refl}
use Rattle.rv_machine.proofs.RunLaws.{Ran-determined, Ran-beginning}
use Rattle.rv_machine.proofs.laws.runs_agree.Goals as goal

pub returns : goal.returns
returns c = record {
  finished = λ code keeps budget s t u list one other stop stop'. Ran-determined keeps list;
  refused = λ code keeps budget s t u list one other stop first
      then calm. Ran-beginning keeps list first then calm refl;
}
