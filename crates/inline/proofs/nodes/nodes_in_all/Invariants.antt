use Rattle.std.proofs.Common.{◌≡◌, ◌≤◌, ◌+◌, drop, map}
use Rattle.inline.specs.Below.{counted, expr_tree, most_counted, nodes_in_all}
use Rattle.inline.proofs.nodes.nodes_in_all.Given as goal

-- the sum is a count, and with what the values left have it is the count of all
abbrev pub invariant-loop-value : goal.invariant-loop-value
invariant-loop-value l =
    (l.sum ≤ most_counted) × (counted (l.sum + nodes_in_all (map expr_tree (drop l.value-index l.values)))
    ≡ counted (nodes_in_all (map expr_tree l.values)))
