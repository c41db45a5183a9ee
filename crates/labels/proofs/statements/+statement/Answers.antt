use Rattle.std.proofs.Common.{map, false, ◌∙◌, ap, ap₂}
use Rattle.labels.specs.Below.{block_tree, counter_as, declared, procedure_tree, scope_after_all, shortened, Variable}
use Rattle.std.proofs.lemmas.Result.{on_ok_weaker}
use Rattle.labels.proofs.TreeLemmas.{conditional_seen, loop_seen, scope_before, scope_before_iterations}
use Rattle.labels.proofs.statements.+statement.Goals as goal

pub arm-returns-clause-names : goal.arm-returns-clause-names
arm-returns-clause-names t c =
    c.truncate.ensures ∙ ap (shortened c.len-outside.result) c.in_ok-statements.ensures.names
    ∙ scope_before c.len-outside.result c.args.names.now (block_tree c.args.arm.now) c.len-outside.ensures.names
    c.len-outside.ensures.places

pub iterations-returns-clause-names : goal.iterations-returns-clause-names
iterations-returns-clause-names t c =
    c.truncate.ensures
    ∙ ap (shortened c.len-before.result) (c.in_ok-statements.ensures.names
    ∙ ap (λ scope. scope_after_all scope (block_tree c.args.body.now)) (c.in_ok-taken.ensures.ok
    ∙ ap₂ (λ text value. declared c.args.names.now c.args.counter.now.place text
    (Variable (record { value = value; mutable = false }))) c.as_str.ensures c.word.ensures))
    ∙ scope_before_iterations c.len-before.result c.args.names.now c.args.counter.now.place c.args.counter.now.name
    counter_as (block_tree c.args.body.now) c.len-before.ensures.names c.len-before.ensures.places

pub statement-returns-in_ok-arm-in-If-clause-findings :
    goal.statement-returns-in_ok-arm-in-If-clause-findings
statement-returns-in_ok-arm-in-If-clause-findings t c =
    on_ok_weaker c.arm-in-If.result
    (λ last. conditional_seen c.args.findings.now c.expression-condition.new.findings
    c.note_condition.new.findings c.arm.new.findings c.arm-in-If.new.findings
    (map procedure_tree c.args.earlier.now) c.args.names.now c.arm.new.names c.args.control
    c.control_under-control.result c.expression-condition.result
    c.args.statement.now c.in-If.place c.in-If.condition c.in-If.accepted c.in-If.otherwise c.as_slice.result.now
    c.as_slice-in-If.result.now c.in-If.is
    c.as_slice.ensures.value c.as_slice-in-If.ensures.value
    c.expression-condition.ensures.typed c.control_under-control.ensures c.in_ok-arm-in-If.ensures.names
    c.expression-condition.ensures.findings c.note_condition.ensures c.in_ok-arm-in-If.ensures.findings last)
    c.arm-in-If.ensures.findings

pub statement-returns-in-For-clause-findings : goal.statement-returns-in-For-clause-findings
statement-returns-in-For-clause-findings t c =
    on_ok_weaker c.iterations.result (λ last. loop_seen c.args.findings.now c.expression-low.new.findings
    c.expression-high.new.findings c.note_bounds.new.findings c.iterations.new.findings
    (map procedure_tree c.args.earlier.now) c.args.names.now c.args.control c.expression-low.result
    c.expression-high.result
    c.args.statement.now c.in-For.place c.in-For.counter c.in-For.low c.in-For.high c.in-For.body
    c.as_slice-in-For.result.now c.in-For.is
    c.as_slice-in-For.ensures.value c.expression-low.ensures.typed c.expression-high.ensures.typed
    c.expression-low.ensures.findings c.expression-high.ensures.findings c.note_bounds.ensures last)
    c.iterations.ensures.findings
