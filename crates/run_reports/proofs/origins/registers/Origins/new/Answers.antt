-- Nothing is kept yet.
use Rattle.run_reports.proofs.origins_lemmas.Kept.{none_kept}
use Rattle.run_reports.proofs.origins.registers.Origins.new.Goals as goal

pub returns : goal.returns
returns c = none_kept 32
