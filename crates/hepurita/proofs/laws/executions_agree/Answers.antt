use Rattle.hepurita.proofs.CallLemmas.{one_execution, begun_execution}
use Rattle.hepurita.proofs.laws.executions_agree.Goals as goal

pub returns-clause-answered : goal.returns-clause-answered
returns-clause-answered c = one_execution

pub returns-clause-wanted : goal.returns-clause-wanted
returns-clause-wanted c = begun_execution
