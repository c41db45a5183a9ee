use Rattle.std.proofs.Common.{◌≡◌, map, drop}
use Rattle.language.specs.Tree.{parameter_tree}
use Rattle.language.specs.Typing.{parameters_assign}
use Rattle.language.proofs.scopes.effects.parameters_assign.Given as goal

-- the parameters so far are none of those that are looked for
abbrev pub invariant-loop-parameter : goal.invariant-loop-parameter
invariant-loop-parameter l =
    parameters_assign (map parameter_tree (drop l.parameter-index l.parameters))
    ≡ parameters_assign (map parameter_tree l.parameters)
