use Rattle.std.proofs.Common.{◌≡◌, ◌≤◌, ◌+◌, drop, map}
use Rattle.intervals.specs.Below.{counted, most_counted, term_tree, terms_nodes}
use Rattle.intervals.proofs.work.nodes_in_all.Given as goal

-- the sum is a count, and with what the expressions left have it is the count of all
abbrev pub invariant-loop-term : goal.invariant-loop-term
invariant-loop-term l =
    (l.sum ≤ most_counted)
    × (counted (l.sum + terms_nodes (map term_tree (drop l.term-index l.terms)))
    ≡ counted (terms_nodes (map term_tree l.terms)))
