use Rattle.std.proofs.Common.{◌≡◌, map, drop, fold}
use Rattle.labels.specs.Below.{parameter_tree, parameter_violations, noted, with_parameters}
use Rattle.labels.proofs.procedures.parameters.Given as goal

-- what is left of the parameters leads to the same scope and the same findings as all of them
abbrev pub invariant-loop-parameter : goal.invariant-loop-parameter
invariant-loop-parameter l =
    let rest = map parameter_tree (drop l.parameter-index l.parameters) in
    let all = map parameter_tree l.parameters in
    record {
      names : with_parameters l.names rest ≡ with_parameters l.fn.names all;
      findings : fold noted l.findings (parameter_violations l.names rest)
          ≡ fold noted l.fn.findings (parameter_violations l.fn.names all);
    }
