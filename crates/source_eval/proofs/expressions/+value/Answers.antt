use Rattle.std.proofs.Common.{arith}
use Rattle.std.proofs.lemmas.Grind.{common_steps}
use Rattle.source_eval.specs.Below.{expr_tree}
use Rattle.source_eval.specs.Views.{held}
use Rattle.source_eval.proofs.RunLemmas.{value_counts}
use Rattle.source_eval.proofs.expressions.+value.Goals as goal

pub value-returns-in_err-spend-clause-err : goal.value-returns-in_err-spend-clause-err
value-returns-in_err-spend-clause-err t c =
    let counts = value_counts (held c.args.variables.now) (expr_tree c.args.expr.now) in
    grind (arith, common_steps)
