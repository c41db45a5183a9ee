use Rattle.std.proofs.Common.{◌≡◌, [], drop, map, take}
use Rattle.language.specs.Meaning.{named}
use Rattle.language.specs.Tree.{procedure_tree}
use Rattle.language.proofs.tree.procedure_named.Given as goal

-- it is among the procedures left
abbrev pub invariant-loop-index : goal.invariant-loop-index
invariant-loop-index l =
    named (map procedure_tree (take l.index l.procedures)) (map procedure_tree (drop l.index l.procedures)) l.name
    ≡ named [] (map procedure_tree l.procedures) l.name
