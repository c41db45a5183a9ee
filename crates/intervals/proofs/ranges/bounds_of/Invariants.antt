use Rattle.std.proofs.Common.{◌≡◌, map, take}
use Rattle.intervals.specs.Ranges.{bound_of}
use Rattle.intervals.proofs.ranges.bounds_of.Given as goal

-- what is known of the parameters so far
abbrev pub invariant-loop-parameter : goal.invariant-loop-parameter
invariant-loop-parameter l = l.bounds.items ≡ map bound_of (take l.parameter-index l.parameters)
