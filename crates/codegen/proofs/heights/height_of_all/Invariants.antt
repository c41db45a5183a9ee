use Rattle.std.proofs.Common.{◌≡◌, drop, map, max}
use Rattle.codegen.specs.Below.{height_of_all, term_tree}
use Rattle.codegen.proofs.heights.height_of_all.Given as goal

abbrev pub invariant-loop-value : goal.invariant-loop-value
invariant-loop-value l = max l.greatest (height_of_all (map term_tree (drop l.value-index l.values)))
    ≡ height_of_all (map term_tree l.values)
