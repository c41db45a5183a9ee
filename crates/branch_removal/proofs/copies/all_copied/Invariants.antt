use Rattle.std.proofs.Common.{◌≡◌, map, take}
use Rattle.branch_removal.proofs.copies.all_copied.Given as goal
use Rattle.branch_removal.specs.Below.{term_tree}

-- the expressions before this one are done
abbrev pub invariant-loop-term : goal.invariant-loop-term
invariant-loop-term l = map term_tree l.copies.items ≡ map term_tree (take l.term-index l.terms)
