use Rattle.std.proofs.Common.{ℕ, map, arith, sym, ap, ◌∙◌}
use Rattle.std.proofs.lemmas.Result.{IfErr-weaker}
use Rattle.source_eval.specs.Below.{begun, block_tree, call_tree, counting, expr_tree, parameter_tree, procedure_tree}
use Rattle.source_eval.specs.Below.{run_all, runnable, State}
use Rattle.source_eval.proofs.Below.{known-none}
use Rattle.source_eval.specs.Metering.{known_of}
use Rattle.source_eval.specs.Views.{held, word_of}
use Rattle.source_eval.proofs.LoopLemmas.{all_statements, each_statement, passes, statement_halts}
use Rattle.source_eval.proofs.RunLemmas.{bounds_end, memory_stops, tick_lacks, iterations_end, iterations_lack}
use Rattle.source_eval.proofs.StatementLemmas.{argument_stops, body_stops, call_none, each_iteration, for_run}
use Rattle.source_eval.proofs.StatementLemmas.{high_stops, if_run, low_stops, ok_along, room_lacks, stops_along}
use Rattle.source_eval.proofs.StatementLemmas.{iteration_stops, whole_ends}
use Rattle.source_eval.proofs.statements.+statement.Goals as goal

pub block-returns-in_err-statement-clause-err : goal.block-returns-in_err-statement-clause-err
block-returns-in_err-statement-clause-err t c =
    let l = c.loop-one in
    passes _ _ _ c.from_residual.ensures.1
    (statement_halts _ (known_of c.args.earlier.now) c.args.running.now.left c.args.room c.args.block.now
    (held l.running.variables) l.one-index c.one-item.result l.running.left _ c.loop-one-test.true c.one-item.is
    l.invariant.leads c.in_err-statement.ensures.err)

pub block-loop-one-preserved : goal.block-loop-one-preserved
block-loop-one-preserved t c =
    let l = c.loop-one in
    record {
      leads = each_statement _ (known_of c.args.earlier.now) c.args.running.now.left c.args.room c.args.block.now
          (held l.running.variables) (held c.statement.new.running.variables) l.one-index c.one-item.result
          l.running.left c.statement.new.running.left c.loop-one-test.true c.one-item.is l.invariant.leads
          c.in_ok-statement.ensures.ok;
      spends = omega (arith, c.in_ok-statement.ensures.ok.spends);
    }

pub block-returns-clause-ok : goal.block-returns-clause-ok
block-returns-clause-ok t c =
    let l = c.loop-one in
    all_statements _ (known_of c.args.earlier.now) c.args.running.now.left c.args.room c.args.block.now
    (held l.running.variables) l.one-index l.running.left c.loop-one-test.false l.invariant.leads

pub call-returns-in_err-spend-clause-err : goal.call-returns-in_err-spend-clause-err
call-returns-in_err-spend-clause-err t c =
    passes _ _ _ c.from_residual.ensures.1
    (tick_lacks _ _ _ _ c.in_err-spend.ensures.err c.in_err-spend.ensures.budget)

pub call-returns-in_default-clause-ok : goal.call-returns-in_default-clause-ok
call-returns-in_default-clause-ok t c =
    call_none _ _ (call_tree c.args.call.now) _ _ _
    (known-none runnable (map procedure_tree c.args.earlier.now) c.args.call.now.name
    (sym c.in_default.ensures)) c.in_ok-spend.ensures.ok

pub call-returns-in_err-words-clause-err : goal.call-returns-in_err-words-clause-err
call-returns-in_err-words-clause-err t c =
    passes _ _ _ c.from_residual-in_err-words.ensures.1
    (argument_stops c.args.earlier.now c.in-Some.before.now c.in-Some.callee.now (held c.args.running.now.variables)
    c.args.call.now c.as_slice-parameters.result.now c.as_slice-arguments.result.now _ _ c.args.room
    c.in-Some.ensures c.in_ok-spend.ensures.ok c.as_slice-parameters.ensures.value
    c.as_slice-arguments.ensures.value _ c.in_err-words.ensures.err)

pub call-returns-in_default-checked_sub-clause-err : goal.call-returns-in_default-checked_sub-clause-err
call-returns-in_default-checked_sub-clause-err t c =
    room_lacks c.args.earlier.now c.in-Some.before.now c.in-Some.callee.now (held c.args.running.now.variables)
    c.args.call.now c.as_slice-parameters.result.now c.as_slice-arguments.result.now _ _ c.args.room
    c.in-Some.ensures c.in_ok-spend.ensures.ok c.as_slice-parameters.ensures.value
    c.as_slice-arguments.ensures.value (map word_of c.in_ok-words.words.items) _ c.in_ok-words.ensures.ok
    (omega (arith, c.in_default-checked_sub.ensures))

pub call-returns-in_err-variables-clause-err : goal.call-returns-in_err-variables-clause-err
call-returns-in_err-variables-clause-err t c =
    passes _ _ _ c.from_residual-in_err-variables.ensures.1 (memory_stops _ _ _ _ c.in_err-variables.ensures.memory)

pub call-returns-in_err-word-clause-err : goal.call-returns-in_err-word-clause-err
call-returns-in_err-word-clause-err t c =
    let begins = c.in_ok-variables.ensures.ok
    ∙ ap (λ ws. begun (held c.args.running.now.variables) (map parameter_tree c.as_slice-parameters.result.now)
    (map expr_tree c.as_slice-arguments.result.now) (map word_of ws)) c.as_slice.ensures.value in
    passes _ _ _ c.from_residual-in_err-word.ensures.1
    (body_stops c.args.earlier.now c.in-Some.before.now c.in-Some.callee.now (held c.args.running.now.variables)
    c.args.call.now c.as_slice-parameters.result.now c.as_slice-arguments.result.now _ _ c.args.room
    c.in-Some.ensures c.in_ok-spend.ensures.ok c.as_slice-parameters.ensures.value
    c.as_slice-arguments.ensures.value (map word_of c.in_ok-words.words.items) _ c.in_ok-words.ensures.ok
    c.in-Some-checked_sub.room _ (omega (arith, c.in-Some-checked_sub.ensures)) begins _
    c.in_err-word.ensures.err)

pub call-returns-in_err-copy_out-clause-err : goal.call-returns-in_err-copy_out-clause-err
call-returns-in_err-copy_out-clause-err t c =
    passes _ _ _ c.from_residual-in_err-copy_out.ensures.1 (memory_stops _ _ _ _ c.in_err-copy_out.ensures.memory)

pub call-returns-clause-ok : goal.call-returns-clause-ok
call-returns-clause-ok t c =
    let begins = c.in_ok-variables.ensures.ok
    ∙ ap (λ ws. begun (held c.args.running.now.variables) (map parameter_tree c.as_slice-parameters.result.now)
    (map expr_tree c.as_slice-arguments.result.now) (map word_of ws)) c.as_slice.ensures.value in
    whole_ends c.args.earlier.now c.in-Some.before.now c.in-Some.callee.now (held c.args.running.now.variables)
    c.args.call.now c.as_slice-parameters.result.now c.as_slice-arguments.result.now _ _ c.args.room
    c.in-Some.ensures c.in_ok-spend.ensures.ok c.as_slice-parameters.ensures.value
    c.as_slice-arguments.ensures.value (map word_of c.in_ok-words.words.items) _ c.in_ok-words.ensures.ok
    c.in-Some-checked_sub.room _ (omega (arith, c.in-Some-checked_sub.ensures)) begins _
    (held c.in_ok-word.inner) _ _ c.in_ok-word.ensures.ok c.in_ok-copy_out.ensures.ok

pub repeat-returns-in_err-spend-clause-err : goal.repeat-returns-in_err-spend-clause-err
repeat-returns-in_err-spend-clause-err t c =
    passes _ _ _ c.from_residual.ensures.1
    (tick_lacks _ _ _ _ c.in_err-spend.ensures.err c.in_err-spend.ensures.budget)

pub repeat-returns-in_err-first-clause-err : goal.repeat-returns-in_err-first-clause-err
repeat-returns-in_err-first-clause-err t c =
    passes _ _ _ c.from_residual-in_err-first.ensures.1
    (low_stops (held c.args.running.now.variables) (expr_tree c.args.low.now) (expr_tree c.args.high.now)
    (λ (i : ℕ) (u : State). run_all (known_of c.args.earlier.now) (counting u c.args.counter.now.name i)
    (block_tree c.args.body.now)) c.args.running.now.left _ c.args.room c.in_ok-spend.ensures.ok _
    c.in_err-first.ensures.err)

pub repeat-returns-in_err-last-clause-err : goal.repeat-returns-in_err-last-clause-err
repeat-returns-in_err-last-clause-err t c =
    passes _ _ _ c.from_residual-in_err-last.ensures.1
    (high_stops (held c.args.running.now.variables) (expr_tree c.args.low.now) (expr_tree c.args.high.now)
    (λ (i : ℕ) (u : State). run_all (known_of c.args.earlier.now) (counting u c.args.counter.now.name i)
    (block_tree c.args.body.now)) c.args.running.now.left _ c.args.room c.in_ok-spend.ensures.ok _ _ _
    c.in_ok-first.ensures.ok c.in_err-last.ensures.err)

pub repeat-loop-number-init : goal.repeat-loop-number-init
repeat-loop-number-init t c =
    record {
      leads = bounds_end _ _ _ _ _ _ _ _ _ _ _ c.in_ok-spend.ensures.ok c.in_ok-first.ensures.ok
          c.in_ok-last.ensures.ok;
      spends = omega (
        arith,
        c.in_ok-spend.ensures.ok,
        c.in_ok-first.ensures.ok.spends,
        c.in_ok-last.ensures.ok.spends,
      );
    }

pub repeat-returns-in_err-spend-2-clause-err : goal.repeat-returns-in_err-spend-2-clause-err
repeat-returns-in_err-spend-2-clause-err t c =
    let l = c.loop-number in
    passes _ _ _ c.from_residual-in_err-spend-2.ensures.1
    (iterations_lack _ _ _ _ (held l.running.variables) l.number _ l.running.left _ c.loop-number-test.true
    l.invariant.leads
    c.in_err-spend-2.ensures.err c.in_err-spend-2.ensures.budget)

pub repeat-returns-in_err-set-clause-err : goal.repeat-returns-in_err-set-clause-err
repeat-returns-in_err-set-clause-err t c =
    passes _ _ _ c.from_residual-in_err-set.ensures.1 (memory_stops _ _ _ _ c.in_err-set.ensures.memory)

pub repeat-returns-in_err-block-clause-err : goal.repeat-returns-in_err-block-clause-err
repeat-returns-in_err-block-clause-err t c =
    let l = c.loop-number in
    passes _ _ _ c.from_residual-in_err-block.ensures.1
    (iteration_stops _ (known_of c.args.earlier.now) c.args.counter.now.name (block_tree c.args.body.now) _ _
    (held l.running.variables) _ l.number _ l.running.left _ _ c.loop-number-test.true l.invariant.leads
    c.in_ok-spend-2.ensures.ok c.in_ok-set.ensures.ok c.in_err-block.ensures.err)

pub repeat-loop-number-preserved : goal.repeat-loop-number-preserved
repeat-loop-number-preserved t c =
    let l = c.loop-number in
    record {
      leads = each_iteration _ (known_of c.args.earlier.now) c.args.counter.now.name (block_tree c.args.body.now) _ _
          (held l.running.variables) _ _ l.number _ l.running.left _ _ c.loop-number-test.true l.invariant.leads
          c.in_ok-spend-2.ensures.ok c.in_ok-set.ensures.ok c.in_ok-block.ensures.ok;
      spends = omega (arith, c.in_ok-spend-2.ensures.ok, c.in_ok-block.ensures.ok.spends);
    }

pub repeat-returns-clause-ok : goal.repeat-returns-clause-ok
repeat-returns-clause-ok t c =
    let l = c.loop-number in
    iterations_end _ _ _ _ (held l.running.variables) l.number _ l.running.left c.loop-number-test.false
    l.invariant.leads

pub statement-returns-in-If-clause-ok : goal.statement-returns-in-If-clause-ok
statement-returns-in-If-clause-ok t c =
    let is = if_run (known_of c.args.earlier.now) (held c.args.running.now.variables) c.args.statement.now
    c.in-If.field-0 c.in-If.condition c.in-If.accepted c.in-If.otherwise c.deref.result.now c.deref-in-If.result.now
    c.in-If.is c.deref.ensures.value c.deref-in-If.ensures.value in
    ok_along c.branch-earlier.result _ _ c.args.running.now.left c.args.room
    (held c.branch-earlier.new.running.variables) c.branch-earlier.new.running.left is c.branch-earlier.ensures.ok

pub statement-returns-in-If-clause-err : goal.statement-returns-in-If-clause-err
statement-returns-in-If-clause-err t c =
    let is = if_run (known_of c.args.earlier.now) (held c.args.running.now.variables) c.args.statement.now
    c.in-If.field-0 c.in-If.condition c.in-If.accepted c.in-If.otherwise c.deref.result.now c.deref-in-If.result.now
    c.in-If.is c.deref.ensures.value c.deref-in-If.ensures.value in
    IfErr-weaker _ _ _ (λ fault h. stops_along _ _ _ _ fault is h) c.branch-earlier.ensures.err

pub statement-returns-in-For-clause-ok : goal.statement-returns-in-For-clause-ok
statement-returns-in-For-clause-ok t c =
    let is = for_run (known_of c.args.earlier.now) (held c.args.running.now.variables) c.args.statement.now
    c.in-For.field-0 c.in-For.counter c.in-For.low c.in-For.high c.in-For.body c.deref-in-For.result.now c.in-For.is
    c.deref-in-For.ensures.value in
    ok_along c.repeat.result _ _ c.args.running.now.left c.args.room (held c.repeat.new.running.variables)
    c.repeat.new.running.left is c.repeat.ensures.ok

pub statement-returns-in-For-clause-err : goal.statement-returns-in-For-clause-err
statement-returns-in-For-clause-err t c =
    let is = for_run (known_of c.args.earlier.now) (held c.args.running.now.variables) c.args.statement.now
    c.in-For.field-0 c.in-For.counter c.in-For.low c.in-For.high c.in-For.body c.deref-in-For.result.now c.in-For.is
    c.deref-in-For.ensures.value in
    IfErr-weaker _ _ _ (λ fault h. stops_along _ _ _ _ fault is h) c.repeat.ensures.err
