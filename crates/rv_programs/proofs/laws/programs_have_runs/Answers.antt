use Rattle.rv_programs.proofs.RunLaws.{step_of_state, step_stops, run_of_state}
use Rattle.rv_programs.proofs.laws.programs_have_runs.Goals as goal

pub returns : goal.returns
returns c = record {
  step = step_of_state;
  stop = step_stops;
  run = run_of_state;
}
