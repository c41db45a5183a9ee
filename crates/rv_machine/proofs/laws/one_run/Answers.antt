use Rattle.rv_machine.proofs.RunLaws.{Leads-determined, Halts-determined, Ran-halts}
use Rattle.rv_machine.proofs.laws.one_run.Goals as goal

pub returns : goal.returns
returns c = record {
  leads = λ code n s t u a b. Leads-determined;
  halts = λ code m n s t u a b stop other. Halts-determined;
  ran = λ code keeps n budget s t u a list list' stop other. Ran-halts keeps list;
}
