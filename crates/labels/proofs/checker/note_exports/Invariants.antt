use Rattle.std.proofs.Common.{◌≡◌, [], is_some, cond, map, take, drop, fold}
use Rattle.std.specs.Option.{option_or}
use Rattle.labels.specs.Below.{export_violations, exported, exports, procedure_tree, noted, too_many}
use Rattle.labels.specs.Exports.{export_index}
use Rattle.labels.proofs.checker.note_exports.Given as goal

-- what is left of the procedures leads to the same findings as all of them, and to the same export
abbrev pub invariant-loop-index : goal.invariant-loop-index
invariant-loop-index l =
    let before = map procedure_tree (take l.index l.procedures) in
    let rest = map procedure_tree (drop l.index l.procedures) in
    let all = map procedure_tree l.procedures in
    (fold noted l.findings (cond (is_some l.export) (too_many (exports rest)) (export_violations (exports rest)))
    ≡ fold noted l.fn.findings (export_violations (exports all)))
    × (option_or l.export (export_index (exported before rest)) ≡ export_index (exported [] all))
