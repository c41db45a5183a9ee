use Rattle.std.proofs.Common.{◌≡◌, drop, fold, map}
use Rattle.inline.specs.Below.{counted_share, larger, largest, parameter_share, parameter_tree}
use Rattle.inline.proofs.costs.largest_parameter.Given as goal

-- what is kept so far and the parameters left give what all give
abbrev pub invariant-loop-parameter : goal.invariant-loop-parameter
invariant-loop-parameter l =
    fold larger l.most
    (map counted_share (map parameter_share (map parameter_tree (drop l.parameter-index l.parameters))))
    ≡ largest (map counted_share (map parameter_share (map parameter_tree l.parameters)))
