use Rattle.std.proofs.Common.{◌≡◌, ◌&&◌, map, fold}
use Rattle.labels.specs.Below.{are_met, expr_tree, parameter_tree, passed, passed_violations, noted}
use Rattle.labels.proofs.RuleLemmas.{violated_from}
use Rattle.labels.proofs.arguments.note_all_passed.Given as goal

-- what is left of the arguments leads to the same as all of them
abbrev pub invariant-loop-index : goal.invariant-loop-index
invariant-loop-index l =
    let rest = violated_from l.index l.names l.place l.parameters l.types l.arguments in
    let all = passed_violations l.names l.place
    (passed (map parameter_tree l.parameters) l.types (map expr_tree l.arguments)) in
    record {
      met : (l.met && are_met rest) ≡ are_met all;
      findings : fold noted l.findings rest ≡ fold noted l.fn.findings all;
    }
