use Rattle.source_eval.specs.Views.{held, value_of}
use Rattle.source_eval.proofs.BeginningLemmas.{holding_all, holding_early, holding_more}
use Rattle.source_eval.proofs.evaluation.hold.Goals as goal

pub returns-in_default-clause-ok : goal.returns-in_default-clause-ok
returns-in_default-clause-ok c =
    let l = c.loop-index in
    holding_early _ (held l.variables) c.args.parameters.now c.args.args.now l.index c.in_default.ensures.lookup.0
    l.invariant

pub loop-index-preserved : goal.loop-index-preserved
loop-index-preserved c =
    let l = c.loop-index in
    let arg = c.in-Some.ensures.lookup in
    holding_more _ c.args.parameters.now c.args.args.now l.index c.index-parameters-index.result c.in-Some.arg.now
    (value_of c.in_ok-value.value) (held l.variables) (held c.set_first.new.self) c.loop-index-test.true arg.3.0
    c.index-parameters-index.is arg.1
    c.in_ok-value.ensures.ok c.in_ok-set_first.ensures.ok l.invariant

pub returns-clause-ok : goal.returns-clause-ok
returns-clause-ok c =
    let l = c.loop-index in
    holding_all _ (held l.variables) c.args.parameters.now c.args.args.now l.index c.loop-index-test.false l.invariant
