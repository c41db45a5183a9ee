use Rattle.std.proofs.Common.{◌≡◌, ◌≤◌, ◌+◌, ◌-◌, ◌^◌, drop, map}
use Rattle.optimisation.specs.Below.{term_tree}
use Rattle.optimisation.specs.private.Nodes.{terms_size, counted}
use Rattle.optimisation.proofs.nodes.nodes_in_all.Given as goal

-- the sum is a count, and with what the expressions left have it is the count of all
abbrev pub invariant-loop-term : goal.invariant-loop-term
invariant-loop-term l =
    (l.sum ≤ 2 ^ 64 - 1)
    × (counted (l.sum + terms_size (map term_tree (drop l.term-index l.terms)))
    ≡ counted (terms_size (map term_tree l.terms)))
