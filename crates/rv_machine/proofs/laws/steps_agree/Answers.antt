use Rattle.rv_machine.proofs.StepLaws.{Stepped-determined, Stepped-refused}
use Rattle.rv_machine.proofs.laws.steps_agree.Goals as goal

pub returns : goal.returns
returns c = record {
  finished = λ code keeps s t u list one other a b. Stepped-determined keeps list;
  refused = λ code keeps s t list after. Stepped-refused keeps list;
}
