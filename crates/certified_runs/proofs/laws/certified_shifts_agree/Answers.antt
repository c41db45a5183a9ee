use Rattle.certified_runs.proofs.Amounts.{shifts_agree}
use Rattle.certified_runs.proofs.laws.certified_shifts_agree.Goals as goal

pub returns : goal.returns
returns c = λ code budget k s t seen stop amounts others run shown covers covers' by by'.
    shifts_agree run shown covers covers' by by'
