use Rattle.std.proofs.Common.{[]}
use Rattle.labels.specs.Below.{first_clash}
use Rattle.labels.proofs.ClashLemmas.{SoFar, all_passed}
use Rattle.labels.proofs.clashes.first_clash.Given as goal

-- the names are those of the arguments so far, and what is left clashes with them as it should
abbrev pub invariant-loop-index : goal.invariant-loop-index
invariant-loop-index l =
    let all = all_passed l.parameters l.types l.arguments in
    SoFar all l.index l.arrays.given l.arrays.changed l.clash (first_clash [] all)
