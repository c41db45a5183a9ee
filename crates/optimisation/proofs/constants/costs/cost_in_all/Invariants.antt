use Rattle.std.proofs.Common.{◌≡◌, ◌≤◌, ◌+◌, ◌-◌, ◌^◌, drop, map}
use Rattle.optimisation.specs.Below.{term_tree}
use Rattle.optimisation.specs.constants.private.Costs.{all_cost}
use Rattle.optimisation.specs.private.Nodes.{counted}
use Rattle.optimisation.proofs.constants.costs.cost_in_all.Given as goal

-- the sum is a count, and with what the expressions left take it is the count of all
abbrev pub invariant-loop-term : goal.invariant-loop-term
invariant-loop-term l =
    (l.sum ≤ 2 ^ 64 - 1)
    × (counted (l.sum + all_cost l.arrays.arrays.items l.known (map term_tree (drop l.term-index l.terms)))
    ≡ counted (all_cost l.arrays.arrays.items l.known (map term_tree l.terms)))
