use Rattle.std.proofs.Common.{◌≡◌, ◌≤◌, ◌+◌, ◌-◌, ◌^◌, drop, map, max}
use Rattle.branch_removal.specs.Below.{term_tree, terms_nodes}
use Rattle.branch_removal.specs.Heights.{height_of_all}
use Rattle.branch_removal.specs.private.Counts.{counted}
use Rattle.branch_removal.proofs.sizes.size_of_all.Given as goal

-- with what the expressions left have, the counts are those of all
abbrev pub invariant-loop-term : goal.invariant-loop-term
invariant-loop-term l =
    let rest = map term_tree (drop l.term-index l.terms) in
    record {
      few : l.work ≤ 2 ^ 64 - 1;
      work : counted (l.work + terms_nodes rest) ≡ counted (terms_nodes (map term_tree l.terms));
      height : max l.greatest (counted (height_of_all rest)) ≡ counted (height_of_all (map term_tree l.terms));
    }
