use Rattle.std.proofs.Common.{drop, map, arith}
use Rattle.inline.proofs.SizeLemmas.{no_arguments}
use Rattle.inline.specs.Below.{parameter_tree}
use Rattle.inline.proofs.nodes.nodes_passed.Goals as goal

pub returns-in_default : goal.returns-in_default
returns-in_default c =
    let none = no_arguments (map parameter_tree (drop c.loop-index.index c.args.parameters.now)) c.args.arguments.now
    c.loop-index.index c.in_default.ensures.lookup.0 in
    omega (arith, none, c.loop-index.invariant.0, c.loop-index.invariant.1)
