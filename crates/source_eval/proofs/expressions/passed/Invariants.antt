use Rattle.std.proofs.Common.{◌++◌, drop, map}
use Rattle.source_eval.specs.Below.{expr_tree, parameter_tree, passed, word_arguments}
use Rattle.source_eval.specs.Views.{held, word_of}
use Rattle.source_eval.proofs.RunLemmas.{GoesOnTo}
use Rattle.source_eval.proofs.expressions.passed.Given as goal

-- the values found, and then those of the word arguments left
abbrev pub invariant-loop-index : goal.invariant-loop-index
invariant-loop-index l =
    GoesOnTo (passed (held l.variables) (word_arguments (map parameter_tree l.parameters) (map expr_tree l.arguments)))
    l.fn.left 0
    (passed (held l.variables) (word_arguments (map parameter_tree (drop l.index l.parameters))
    (map expr_tree (drop l.index l.arguments)))) l.left (λ vs. map word_of l.words.items ++ vs)
