use Rattle.rv_machine.proofs.TotalLaws.{step_of_state, step_stops, run_of_state}
use Rattle.rv_machine.proofs.laws.every_state_has_a_run.Goals as goal

pub returns : goal.returns
returns c = record {
  step = step_of_state;
  stop = step_stops;
  run = run_of_state;
}
