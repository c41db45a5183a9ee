use Rattle.std.proofs.Common.{◌≡◌, drop, map}
use Rattle.branch_removal.specs.Uses.{used_in_terms}
use Rattle.branch_removal.specs.Below.{term_tree}
use Rattle.branch_removal.proofs.uses.count_in_terms.Given as goal

-- with those in the expressions that are left, the weights are those of all
abbrev pub invariant-loop-term : goal.invariant-loop-term
invariant-loop-term l =
    used_in_terms l.weight (map term_tree (drop l.term-index l.terms)) l.weights
    ≡ used_in_terms l.weight (map term_tree l.terms) l.fn.weights
