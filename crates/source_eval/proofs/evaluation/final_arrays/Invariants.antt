use Rattle.std.proofs.Common.{◌≡◌, ◌++◌, map, drop}
use Rattle.source_eval.specs.Below.{final_arrays, parameter_tree}
use Rattle.source_eval.specs.Views.{held}
use Rattle.source_eval.proofs.evaluation.final_arrays.Given as goal

-- the arrays so far, and then those of the parameters left
abbrev pub invariant-loop-parameter : goal.invariant-loop-parameter
invariant-loop-parameter l =
    l.arrays.items ++ final_arrays (held l.variables) (map parameter_tree (drop l.parameter-index l.parameters))
    ≡ final_arrays (held l.variables) (map parameter_tree l.parameters)
