use Rattle.std.proofs.Common.{◌≡◌, drop, map}
use Rattle.source_eval.specs.Below.{copied_out, expr_tree, parameter_tree}
use Rattle.source_eval.specs.Views.{held}
use Rattle.source_eval.proofs.calls.copy_out.Given as goal

-- what is left to copy out leads to the same map as all
abbrev pub invariant-loop-index : goal.invariant-loop-index
invariant-loop-index l =
    copied_out (held l.caller) (held l.inner) (map parameter_tree (drop l.index l.parameters))
    (map expr_tree (drop l.index l.arguments))
    ≡ copied_out (held l.fn.caller) (held l.inner) (map parameter_tree l.parameters) (map expr_tree l.arguments)
