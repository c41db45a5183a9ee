use Rattle.intervals.proofs.Safe as safe
use Rattle.intervals.proofs.laws.safe_runs_meet_no_fault.Goals as goal

pub returns : goal.returns
returns c = safe.safe_runs_meet_no_fault
