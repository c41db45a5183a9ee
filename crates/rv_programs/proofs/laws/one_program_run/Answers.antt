use Rattle.rv_programs.proofs.RunLaws.{Step-determined, Leads-determined, Halts-determined, Runs-determined}
use Rattle.rv_programs.proofs.laws.one_program_run.Goals as goal

pub returns : goal.returns
returns c = record {
  step = λ program s e f. Step-determined;
  leads = λ program n s t u a b. Leads-determined;
  halts = λ program m n s t u a b stop other. Halts-determined;
  runs = λ program budget s t u a b stop other. Runs-determined;
}
