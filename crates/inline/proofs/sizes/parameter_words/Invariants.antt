use Rattle.std.proofs.Common.{◌≡◌, ◌≤◌, ◌+◌, drop, map}
use Rattle.inline.specs.Below.{counted, most_counted, parameter_tree, parameter_words}
use Rattle.inline.proofs.sizes.parameter_words.Given as goal

-- the sum is a count, and with what the parameters left take it is the count of all
abbrev pub invariant-loop-parameter : goal.invariant-loop-parameter
invariant-loop-parameter l =
    (l.sum ≤ most_counted) × (counted
    (l.sum + parameter_words (map parameter_tree (drop l.parameter-index l.parameters)))
    ≡ counted (parameter_words (map parameter_tree l.parameters)))
