use Rattle.source_eval.specs.Views.{held}
use Rattle.source_eval.proofs.LoopLemmas.{no_arguments, no_parameters, pass_ends, pass_lacks, pass_more, pass_over}
use Rattle.source_eval.proofs.LoopLemmas.{pass_stops, passes}
use Rattle.source_eval.proofs.expressions.passed.Goals as goal

pub returns-then-arguments-index-clause-ok : goal.returns-then-arguments-index-clause-ok
returns-then-arguments-index-clause-ok c =
    let l = c.loop-index in
    pass_ends (held c.args.variables.now) _ c.args.parameters.now c.args.arguments.now _ l.index l.left l.words.items
    (no_arguments c.args.parameters.now c.args.arguments.now l.index c.if-arguments-index.true) l.invariant

pub loop-index-preserved-in-FixedArray : goal.loop-index-preserved-in-FixedArray
loop-index-preserved-in-FixedArray c =
    let l = c.loop-index in
    pass_over (held c.args.variables.now) _ c.args.parameters.now c.args.arguments.now _ l.index
    c.index-parameters-index.result c.index-arguments-index.result c.loop-index-test.true c.if-arguments-index.false
    c.index-parameters-index.is c.index-arguments-index.is
    l.left l.words.items c.in-FixedArray.is l.invariant

pub returns-in_err-spend-clause-err : goal.returns-in_err-spend-clause-err
returns-in_err-spend-clause-err c =
    let l = c.loop-index in
    passes _ _ _ c.from_residual.ensures.1
    (pass_lacks (held c.args.variables.now) _ c.args.parameters.now c.args.arguments.now _ l.index
    c.index-parameters-index.result c.index-arguments-index.result c.loop-index-test.true c.if-arguments-index.false
    c.index-parameters-index.is c.index-arguments-index.is
    l.left l.words.items _ c.in-SingleWord.is l.invariant c.in_err-spend.ensures.err c.in_err-spend.ensures.budget)

pub returns-in_err-value-clause-err : goal.returns-in_err-value-clause-err
returns-in_err-value-clause-err c =
    let l = c.loop-index in
    passes _ _ _ c.from_residual-in_err-value.ensures.1
    (pass_stops (held c.args.variables.now) _ c.args.parameters.now c.args.arguments.now _ l.index
    c.index-parameters-index.result c.index-arguments-index.result c.loop-index-test.true c.if-arguments-index.false
    c.index-parameters-index.is c.index-arguments-index.is
    l.left _ l.words.items _ c.in-SingleWord.is l.invariant c.in_ok-spend.ensures.ok c.in_err-value.ensures.err)

pub loop-index-preserved : goal.loop-index-preserved
loop-index-preserved c =
    let l = c.loop-index in
    pass_more (held c.args.variables.now) _ c.args.parameters.now c.args.arguments.now _ l.index
    c.index-parameters-index.result c.index-arguments-index.result c.loop-index-test.true c.if-arguments-index.false
    c.index-parameters-index.is c.index-arguments-index.is
    l.left _ c.value.new.left l.words.items c.push.new.self.items c.in_ok-value.field-0 c.in-SingleWord.is
    c.in_ok-push.ensures.items l.invariant c.in_ok-spend.ensures.ok c.in_ok-value.ensures.ok

pub returns-clause-ok : goal.returns-clause-ok
returns-clause-ok c =
    let l = c.loop-index in
    pass_ends (held c.args.variables.now) _ c.args.parameters.now c.args.arguments.now _ l.index l.left l.words.items
    (no_parameters c.args.parameters.now c.args.arguments.now l.index c.loop-index-test.false)
    l.invariant
