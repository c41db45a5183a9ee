use Rattle.std.proofs.Common.{◌++◌, drop, map}
use Rattle.source_eval.specs.Below.{expr_tree, values}
use Rattle.source_eval.specs.Views.{held, word_of}
use Rattle.source_eval.proofs.RunLemmas.{GoesOnTo}
use Rattle.source_eval.proofs.expressions.values.Given as goal

-- the values found, and then those of the expressions left
abbrev pub invariant-loop-expr : goal.invariant-loop-expr
invariant-loop-expr l =
    GoesOnTo (values (held l.variables) (map expr_tree l.exprs)) l.fn.left 0
    (values (held l.variables) (map expr_tree (drop l.expr-index l.exprs))) l.left
    (λ vs. map word_of l.words.items ++ vs)
