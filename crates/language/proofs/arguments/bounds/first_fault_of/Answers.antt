use Rattle.std.proofs.Common.{map, rules, ap, ◌∙◌}
use Rattle.language.specs.Signature.{param_of}
use Rattle.language.specs.Tree.{parameter_tree}
use Rattle.language.specs.arguments.Faults.{fault_of, rule_of}
use Rattle.language.proofs.arguments_lemmas.FaultLemmas.{fault_by-shown}
use Rattle.language.proofs.arguments.bounds.first_fault_of.Goals as goal

pub returns : goal.returns
returns c =
    let parameters = c.args.parameters.now in
    c.first_fault_by.ensures (λ parameter arg. rule_of (param_of (parameter_tree parameter)) arg)
    (λ parameter arg broken is. search rules)
    ∙ fault_by-shown parameter_tree (λ tree. rule_of (param_of tree)) parameters c.as_slice.result.now
    ∙ fault_by-shown param_of rule_of (map parameter_tree parameters) c.as_slice.result.now
    ∙ ap (fault_of (map param_of (map parameter_tree parameters))) c.as_slice.ensures
