use Rattle.std.proofs.Common.{◌≡◌, ◌++◌, drop, map}
use Rattle.functions.specs.function_text.Functions.{named, written_parameter}
use Rattle.functions.specs.Below.{parameter_tree}
use Rattle.functions.proofs.function_text.function.named_params.Given as goal

abbrev pub invariant-loop-parameter : goal.invariant-loop-parameter
invariant-loop-parameter l =
    map named l.params.items ++ map (written_parameter l.macros.function.now)
    (map parameter_tree (drop l.parameter-index l.parameters))
    ≡ map (written_parameter l.fn.macros.function.now) (map parameter_tree l.fn.parameters)
