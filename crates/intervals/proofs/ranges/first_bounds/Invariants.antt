use Rattle.std.proofs.Common.{◌≡◌, ◌++◌, ◌-◌, ◌≤◌, None, replicate}
use Rattle.intervals.proofs.ranges.first_bounds.Given as goal

-- so many variables are known not to be known
abbrev pub invariant-loop : goal.invariant-loop
invariant-loop l = record {
  bounds : l.bounds.items ≡ l.initial.bounds.items ++ replicate (l.counter - l.initial.counter) None;
  few : l.counter - l.initial.counter ≤ l.end - l.initial.counter;
}
