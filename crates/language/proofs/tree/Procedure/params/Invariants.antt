use Rattle.std.proofs.Common.{◌≡◌, map, take}
use Rattle.language.specs.Signature.{param_of}
use Rattle.language.specs.Tree.{parameter_tree}
use Rattle.language.proofs.tree.Procedure.params.Given as goal

abbrev pub invariant-loop-parameter : goal.invariant-loop-parameter
invariant-loop-parameter l = l.params.items
    ≡ map param_of (map parameter_tree (take l.parameter-index l.fn.self.parameters.items))
