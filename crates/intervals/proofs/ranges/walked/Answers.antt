use Rattle.intervals.proofs.Safe.{accepted_is_safe}
use Rattle.intervals.proofs.ranges.walked.Goals as goal

pub returns-clause-safe : goal.returns-clause-safe
returns-clause-safe c = accepted_is_safe c.args.flat.now c.body.ensures.kept.typed
