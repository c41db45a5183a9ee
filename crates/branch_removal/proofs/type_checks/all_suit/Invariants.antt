use Rattle.std.proofs.Common.{◌≡◌, drop, map}
use Rattle.branch_removal.specs.Below.{term_tree}
use Rattle.branch_removal.specs.private.Checks.{all_suit, types_beside}
use Rattle.branch_removal.proofs.type_checks.all_suit.Given as goal

-- those that are left suit where all do
abbrev pub invariant-loop-value : goal.invariant-loop-value
invariant-loop-value l =
    all_suit (types_beside l.profile l.declared l.without) l.wanted (map term_tree (drop l.value-index l.values))
    ≡ all_suit (types_beside l.profile l.declared l.without) l.wanted (map term_tree l.values)
