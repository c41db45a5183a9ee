use Rattle.source_eval.specs.Views.{held}
use Rattle.source_eval.proofs.LoopLemmas.{all_values, each_value, passes, value_halts}
use Rattle.source_eval.proofs.expressions.values.Goals as goal

pub returns-in_err-value-clause-err : goal.returns-in_err-value-clause-err
returns-in_err-value-clause-err c =
    let l = c.loop-expr in
    passes _ _ _ c.from_residual.ensures.1
    (value_halts (held c.args.variables.now) _ c.args.exprs.now _ l.expr-index
    c.expr-item.result l.left l.words.items _ c.loop-expr-test.true c.expr-item.is l.invariant
    c.in_err-value.ensures.err)

pub loop-expr-preserved : goal.loop-expr-preserved
loop-expr-preserved c =
    let l = c.loop-expr in
    each_value (held c.args.variables.now) _ c.args.exprs.now _ l.expr-index
    c.expr-item.result l.left c.value.new.left l.words.items c.push.new.self.items c.in_ok-value.field-0
    c.loop-expr-test.true c.expr-item.is c.in_ok-push.ensures.items l.invariant c.in_ok-value.ensures.ok

pub returns-clause-ok : goal.returns-clause-ok
returns-clause-ok c =
    let l = c.loop-expr in
    all_values (held c.args.variables.now) _ c.args.exprs.now _ l.expr-index l.left
    l.words.items c.loop-expr-test.false l.invariant
