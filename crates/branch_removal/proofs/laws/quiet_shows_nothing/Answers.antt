use Rattle.branch_removal.proofs.QuietLemmas.{quiet_path}
use Rattle.branch_removal.proofs.laws.quiet_shows_nothing.Goals as goal

pub returns : goal.returns
returns c = λ m e quiet. quiet_path m e quiet
