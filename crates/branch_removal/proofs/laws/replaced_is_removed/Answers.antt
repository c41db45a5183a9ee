use Rattle.branch_removal.proofs.Shown.{still_removed}
use Rattle.branch_removal.proofs.laws.replaced_is_removed.Goals as goal

pub returns : goal.returns
returns c = λ ranged before after removed replaced. still_removed ranged before after removed replaced
