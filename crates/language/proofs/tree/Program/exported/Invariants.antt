use Rattle.std.proofs.Common.{◌≡◌, [], drop, map, take}
use Rattle.language.specs.Signature.{exported}
use Rattle.language.specs.Tree.{procedure_tree}
use Rattle.language.proofs.tree.Program.exported.Given as goal

-- the export is among the procedures left
abbrev pub invariant-loop-index : goal.invariant-loop-index
invariant-loop-index l =
    let procedures = l.fn.self in
    exported (map procedure_tree (take l.index procedures)) (map procedure_tree (drop l.index procedures))
    ≡ exported [] (map procedure_tree procedures)
