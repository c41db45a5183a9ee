use Rattle.std.proofs.Common.{◌≡◌, ◌≤◌, ◌+◌, ◌-◌, ◌^◌, drop, map}
use Rattle.optimisation.specs.Below.{term_tree}
use Rattle.optimisation.specs.iteration_groups.private.Losses.{all_lost}
use Rattle.optimisation.specs.private.Nodes.{counted}
use Rattle.optimisation.proofs.iteration_groups.losses.lost_in_all.Given as goal

-- the sum is a count, and with what the expressions left lose it is the count of all
abbrev pub invariant-loop-term : goal.invariant-loop-term
invariant-loop-term l =
    (l.sum ≤ 2 ^ 64 - 1)
    × (counted (l.sum + all_lost l.arrays.arrays.items l.counter (map term_tree (drop l.term-index l.terms)))
    ≡ counted (all_lost l.arrays.arrays.items l.counter (map term_tree l.terms)))
