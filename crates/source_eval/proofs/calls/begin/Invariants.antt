use Rattle.std.proofs.Common.{◌≡◌, drop, map}
use Rattle.source_eval.specs.Below.{begun, expr_tree, parameter_tree}
use Rattle.source_eval.specs.Views.{held, word_of}
use Rattle.source_eval.proofs.BeginningLemmas.{over}
use Rattle.source_eval.proofs.calls.begin.Given as goal

-- what is held, over what the parameters left hold, is what all hold
abbrev pub invariant-loop-index : goal.invariant-loop-index
invariant-loop-index l =
    over (held l.inner) (begun (held l.caller) (map parameter_tree (drop l.index l.parameters))
    (map expr_tree (drop l.index l.arguments)) (map word_of l.left))
    ≡ begun (held l.caller) (map parameter_tree l.parameters) (map expr_tree l.arguments) (map word_of l.words)
