use Rattle.hepurita.proofs.run_bounds_lemmas.Programs.{program_spends}
use Rattle.hepurita.proofs.run_bounds.laws.runs_evaluate_what_is_counted.Goals as goal

pub returns : goal.returns
returns c = program_spends
