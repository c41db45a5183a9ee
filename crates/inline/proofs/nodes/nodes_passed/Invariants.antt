use Rattle.std.proofs.Common.{◌≡◌, ◌≤◌, ◌+◌, drop, map}
use Rattle.inline.specs.Below.{counted, expr_tree, most_counted, nodes_passed, parameter_tree, word_arguments}
use Rattle.inline.proofs.nodes.nodes_passed.Given as goal

-- the sum is a count, and with what the arguments left cost it is the count of all
abbrev pub invariant-loop-index : goal.invariant-loop-index
invariant-loop-index l =
    (l.sum ≤ most_counted)
    × (counted (l.sum + nodes_passed
    (word_arguments (map parameter_tree (drop l.index l.parameters)) (map expr_tree (drop l.index l.arguments))))
    ≡ counted (nodes_passed (word_arguments (map parameter_tree l.parameters) (map expr_tree l.arguments))))
