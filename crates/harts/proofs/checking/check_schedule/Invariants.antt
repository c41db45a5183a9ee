-- No entry so far breaks a rule.
use Rattle.std.proofs.Common.{◌<◌, ◌≤◌, take, All}
use Rattle.harts.specs.Refused.{most_turns}
use Rattle.harts.proofs.checking.check_schedule.Given as goal

abbrev pub invariant-loop-at : goal.invariant-loop-at
invariant-loop-at l = record {
  named : All (λ number. number < l.harts) (take l.at l.schedule);
  near : l.at ≤ most_turns;
}
