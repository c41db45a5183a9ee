use Rattle.std.proofs.Common.{◌≡◌, drop, map}
use Rattle.source_eval.specs.Below.{holding, parameter_tree}
use Rattle.source_eval.specs.Views.{held}
use Rattle.source_eval.proofs.BeginningLemmas.{over}
use Rattle.source_eval.proofs.evaluation.hold.Given as goal

-- what is held, over what the parameters left hold, is what all hold
abbrev pub invariant-loop-index : goal.invariant-loop-index
invariant-loop-index l =
    over (held l.variables) (holding (map parameter_tree (drop l.index l.parameters)) (drop l.index l.args))
    ≡ holding (map parameter_tree l.parameters) l.args
