use Rattle.source_eval.proofs.Opening.{program_opens}
use Rattle.source_eval.proofs.laws.runs_open_what_is_counted.Goals as goal

pub returns : goal.returns
returns c = program_opens
