use Rattle.intervals.proofs.Safe as safe
use Rattle.intervals.proofs.laws.accepted_is_safe.Goals as goal

pub returns : goal.returns
returns c = safe.accepted_is_safe
