use Rattle.branch_removal.proofs.Shown.{same_paths, same_public}
use Rattle.branch_removal.proofs.laws.straight_shows_what_is_public.Goals as goal

pub returns : goal.returns
returns c = record {
  paths = λ p one other typed agree. same_paths p typed one other agree;
  public = λ p one other typed agree. same_public p typed one other agree;
}
