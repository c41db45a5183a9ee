use Rattle.std.proofs.Common.{◌≡◌, [], map, take, drop, fold}
use Rattle.labels.specs.Below.{procedure_tree, procedures_violations, noted}
use Rattle.labels.proofs.checker.note_each.Given as goal

-- what is left of the procedures leads to the same findings as all of them
abbrev pub invariant-loop-index : goal.invariant-loop-index
invariant-loop-index l =
    fold noted l.findings (procedures_violations (map procedure_tree (take l.index l.procedures)) l.names
    (map procedure_tree (drop l.index l.procedures)))
    ≡ fold noted l.fn.findings (procedures_violations [] l.fn.names (map procedure_tree l.procedures))
