use Rattle.source_eval.proofs.OneEnd.{end-had, exactly-one}
use Rattle.source_eval.proofs.laws.meaning_can_be_had.Goals as goal

pub returns : goal.returns
returns c = record { derivable = end-had; exactly_one = exactly-one }
