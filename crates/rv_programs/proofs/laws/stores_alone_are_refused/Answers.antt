use Rattle.rv_programs.proofs.Guards.{code_step, goes_allowed, goes_refused, stops_so}
use Rattle.rv_programs.proofs.laws.stores_alone_are_refused.Goals as goal

pub returns : goal.returns
returns c = record {
  goes_on = λ program s t o. (code_step, λ both. goes_allowed both.0 both.1);
  refused = λ program s t o. goes_refused;
  stops = λ program s seen stop. stops_so;
}
