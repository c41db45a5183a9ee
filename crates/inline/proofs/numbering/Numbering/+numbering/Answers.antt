use Rattle.std.proofs.Common.{rules, arith, Some, ◌≡◌, ◌<◌, ◌+◌, ◌*◌, ◌∷◌, ap, ap₂, drop, length, length-append, map}
use Rattle.std.proofs.Common.{refl, sym, take, ◌∙◌}
use Rattle.std.proofs.lemmas.List.{append-nil, append_assoc, drop_all, drop_more}
use Rattle.inline.specs.Callees.{called_by}
use Rattle.inline.specs.Flat.{flat_block, term_tree}
use Rattle.inline.specs.Numbering.{call_result, call_value, value_given}
use Rattle.inline.specs.Below.{block_tree, call_tree, expr_tree}
use Rattle.inline.proofs.BlockLemmas.{chain_chain, chain_nothing, ok_any}
use Rattle.inline.proofs.Measures.{body_smaller, conditional_smaller, loop_smaller, nodes_of_block, rest_smaller}
use Rattle.inline.proofs.NumberingLemmas.{conditional_whole, loop_whole, names_before, names_before_one, called}
use Rattle.inline.proofs.NumberingLemmas.{not_called}
use Rattle.inline.proofs.RowLemmas.{branch_tree, loop_tree}
use Rattle.inline.proofs.numbering.Numbering.+numbering.Goals as goal

pub arm-returns-clause-names : goal.arm-returns-clause-names
arm-returns-clause-names t c =
    c.truncate.ensures ∙ ap₂ take c.len-names.ensures c.in_ok-block.ensures.names
    ∙ names_before (called_by c.args.earlier.now) c.args.self.now.names (length c.args.declared.now.items)
    (block_tree c.args.arm.now)

pub block-loop-statement-preserved : goal.block-loop-statement-preserved
block-loop-statement-preserved t c =
    let s = c.statement-item.result in
    let l = c.loop-statement in
    let rest = drop (l.statement-index + 1) c.args.block.now in
    let here : drop l.statement-index c.args.block.now ≡ s ∷ rest =
    drop_more c.args.block.now l.statement-index s c.loop-statement-test.true
    ∙ ap (λ x. x ∷ rest) (sym c.statement-item.is) in
    let made = c.in_ok-statement.ensures in
    record {
      block = rw (made.block, made.names, made.declared, length-append, chain_chain) (rw here at l.invariant.block);
      names = rw (made.names, made.declared, length-append) (rw here at l.invariant.names);
      declared = rw (made.declared, append_assoc) (rw here at l.invariant.declared);
      smaller = rest_smaller c.args.earlier.now c.args.block.now here l.invariant.smaller;
    }

pub block-returns-clause-block : goal.block-returns-clause-block
block-returns-clause-block t c =
    let l = c.loop-statement in
    sym (chain_nothing (flat_block l.flat.items))
    ∙ (rw (drop_all l.statement-index c.args.block.now c.loop-statement-test.false) at l.invariant.block)

pub block-returns-clause-names : goal.block-returns-clause-names
block-returns-clause-names t c =
    let l = c.loop-statement in
    rw (drop_all l.statement-index c.args.block.now c.loop-statement-test.false) at l.invariant.names

pub block-returns-clause-declared : goal.block-returns-clause-declared
block-returns-clause-declared t c =
    let l = c.loop-statement in
    sym (append-nil l.declared.items)
    ∙ (rw (drop_all l.statement-index c.args.block.now c.loop-statement-test.false) at l.invariant.declared)

pub branch-returns-clause-block : goal.branch-returns-clause-block
branch-returns-clause-block t c =
    rw (
      branch_tree,
      c.label-label.ensures,
      c.in_ok-condition.ensures,
      c.in_ok-accepted.ensures.block,
      c.in_ok-otherwise.ensures.block,
      c.in_ok-accepted.ensures.names,
      c.in_ok-accepted.ensures.declared,
      length-append,
    ) at c.push.ensures

pub iterations-returns-clause-block : goal.iterations-returns-clause-block
iterations-returns-clause-block t c =
    rw (
      loop_tree,
      c.in_ok-low.ensures,
      c.in_ok-high.ensures,
      c.in_ok-iteration.ensures.block,
      c.in_ok-number.ensures.number,
      c.in_ok-number.ensures.names,
      c.in_ok-number.ensures.declared,
      length-append,
      c.counter.ensures,
    ) at c.push.ensures

pub iterations-returns-clause-names : goal.iterations-returns-clause-names
iterations-returns-clause-names t c =
    ok_any c.push.result
    (c.truncate.ensures
    ∙ ap₂ take c.len-names.ensures (c.in_ok-iteration.ensures.names ∙ c.in_ok-number.ensures.names)
    ∙ names_before_one c.args.self.now.names c.args.counted.now.name _)

pub statement-branch-self-requires : goal.statement-branch-self-requires
statement-branch-self-requires t c =
    let smaller = conditional_smaller c.args.earlier.now _ c.in-If.condition c.in-If.accepted c.in-If.otherwise
    c.in-If.is c.deref.ensures.value c.deref-in-If.ensures.value in
    search (rules, smaller)

pub statement-iterations-requires : goal.statement-iterations-requires
statement-iterations-requires t c =
    let smaller = loop_smaller c.args.earlier.now _ c.in-For.counted c.in-For.low c.in-For.high c.in-For.body
    c.in-For.is c.deref-in-For.ensures.value in
    search (rules, smaller)

pub statement-returns-in-If : goal.statement-returns-in-If
statement-returns-in-If t c =
    let whole = conditional_whole _ c.in-If.condition c.in-If.accepted c.in-If.otherwise c.in-If.is
    c.deref.ensures.value c.deref-in-If.ensures.value in
    let made = c.branch-self.ensures in
    record { block = rw whole made.block; names = rw whole made.names; declared = rw whole made.declared }

pub statement-returns-in-For : goal.statement-returns-in-For
statement-returns-in-For t c =
    let whole = loop_whole _ c.in-For.counted c.in-For.low c.in-For.high c.in-For.body c.in-For.is
    c.deref-in-For.ensures.value in
    let made = c.iterations.ensures in
    record { block = rw whole made.block; names = rw whole made.names; declared = rw whole made.declared }

pub word-returns-clause-block : goal.word-returns-clause-block
word-returns-clause-block t c =
    rw (
      c.in_ok-number.ensures.number,
      c.in_ok-value.ensures.declared,
      length-append,
      c.in_ok-value.ensures.value,
      c.in_ok-value.ensures.block,
      chain_chain,
    ) at c.push.ensures

pub call-returns-in_default : goal.call-returns-in_default
call-returns-in_default t c =
    let is = not_called c.args.earlier.now c.args.call.now.name c.in_default.ensures in
    record {
      word = rw is refl;
      value = rw is refl;
      block = rw is (sym (chain_nothing (flat_block c.args.flat.now.items)));
      declared = rw is (sym (append-nil c.args.declared.now.items));
    }

pub call-inside-requires : goal.call-inside-requires
call-inside-requires t c =
    let smaller = body_smaller c.args.earlier.now c.in-Some.before.now c.in-Some.callee.now
    (call_tree c.args.call.now) c.in-Some.callee.now.body.items c.in-Some.ensures refl in
    search (rules, smaller)

pub inside-block-requires : goal.inside-block-requires
inside-block-requires t c =
    let same = ap (nodes_of_block c.args.earlier.now) c.deref.ensures.value in
    let smaller : 8 * nodes_of_block c.args.earlier.now c.deref.result.now + 7
    < 8 * nodes_of_block c.args.earlier.now c.args.procedure.now.body.items + 8 = omega (arith, same) in
    search (rules, smaller)

pub inside-returns : goal.inside-returns
inside-returns t c =
    let list = c.deref.ensures.value in
    let made = c.in_ok-block.ensures in
    record {
      value = rw (made.names, list) at c.value.ensures;
      block = ok_any c.value.result (rw list at made.block);
      declared = ok_any c.value.result (rw list at made.declared);
    }

pub call-returns : goal.call-returns
call-returns t c =
    let is = called c.args.earlier.now c.in-Some.before.now c.in-Some.callee.now c.args.call.now.name
    c.in-Some.ensures in
    let own = c.in_ok-own.ensures in
    let made = c.in_ok-value.ensures in
    let parameters = c.deref.ensures.value in
    let arguments = c.deref-2.ensures.value in
    record {
      word = rw is refl;
      value = rw (is, made.value, own.own, own.declared, parameters, arguments, length-append) refl;
      block = rw (is, made.block, own.block, own.own, own.declared, parameters, arguments, length-append, chain_chain)
          refl;
      declared = rw (is, made.declared, own.declared, parameters, arguments, append_assoc) refl;
    }

pub call_alone-returns-in_ok-push-2-clause-block : goal.call_alone-returns-in_ok-push-2-clause-block
call_alone-returns-in_ok-push-2-clause-block t c =
    let known = called_by c.args.earlier.now c.args.call.now.name in
    let called = c.in_ok-word.ensures in
    let result : call_result known ≡ Some c.in-Some.word =
    let a = called.word in let b = c.in_ok-word.word-is in let d = c.in-Some.is in cc in
    let value : term_tree c.value_given.result ≡ value_given (call_value known c.args.self.now.names
    (length c.args.declared.now.items) (map expr_tree c.args.call.now.arguments.items)) =
    let a = called.value in let b = c.in_ok-word.value-is in let d = c.value_given.ensures in cc in
    rw (
      c.in_ok-push-2.ensures,
      called.block,
      chain_chain,
      c.in_ok-push.ensures,
      chain_chain,
      c.in_ok-number.ensures.number,
      called.declared,
      length-append,
      value,
      result,
    ) refl

pub element-returns-in_ok-given-in-Call-clause-block :
    goal.element-returns-in_ok-given-in-Call-clause-block
element-returns-in_ok-given-in-Call-clause-block t c =
    let given = c.in_ok-given-in-Call in
    rw c.in-Call.is
    (rw (
      given.ensures.block,
      chain_chain,
      c.in_ok-push-in-Call.ensures,
      chain_chain,
      c.value_given-value.ensures,
      given.ensures.value,
      c.in_ok-index.ensures,
      c.in_ok-held-in-Call.ensures.number,
      c.in_ok-held-in-Call.ensures.declared,
      length-append,
      c.numbers-size.ensures,
      c.numbered-number.ensures,
    ) at c.push-in-Call-2.ensures)

pub word-returns-clause-names : goal.word-returns-clause-names
word-returns-clause-names t c =
    ok_any c.push.result
    (rw (c.in_ok-number.ensures.names, c.in_ok-value.ensures.declared, length-append, c.word.ensures) refl)

pub word-returns-clause-declared : goal.word-returns-clause-declared
word-returns-clause-declared t c =
    ok_any c.push.result
    (rw (c.in_ok-number.ensures.declared, c.in_ok-value.ensures.declared, append_assoc, c.word.ensures) refl)

pub assign-returns-clause-block : goal.assign-returns-clause-block
assign-returns-clause-block t c =
    rw (c.in_ok-value.ensures.value, c.in_ok-value.ensures.block, chain_chain, c.numbered-number.ensures)
    at c.push.ensures

pub assign-returns-clause-declared : goal.assign-returns-clause-declared
assign-returns-clause-declared t c = ok_any c.push.result c.in_ok-value.ensures.declared

pub branch-returns-clause-names : goal.branch-returns-clause-names
branch-returns-clause-names t c =
    ok_any c.push.result (c.in_ok-otherwise.ensures.names ∙ c.in_ok-accepted.ensures.names)

pub branch-returns-clause-declared : goal.branch-returns-clause-declared
branch-returns-clause-declared t c =
    ok_any c.push.result
    (rw (c.in_ok-otherwise.ensures.declared, c.in_ok-accepted.ensures.declared, append_assoc) refl)

pub iterations-returns-clause-declared : goal.iterations-returns-clause-declared
iterations-returns-clause-declared t c =
    ok_any c.push.result
    (rw (c.in_ok-iteration.ensures.declared, c.in_ok-number.ensures.declared, append_assoc, c.counter.ensures) refl)

pub right-returns-in-Value-clause-block : goal.right-returns-in-Value-clause-block
right-returns-in-Value-clause-block t c =
    ok_any c.term.result (rw c.in-Value.is (sym (chain_nothing (flat_block c.args.flat.now.items))))

pub right-returns-in-Value-clause-declared : goal.right-returns-in-Value-clause-declared
right-returns-in-Value-clause-declared t c =
    ok_any c.term.result (rw c.in-Value.is (sym (append-nil c.args.declared.now.items)))

pub right-returns-in_ok-push-in-Call-2-clause-block : goal.right-returns-in_ok-push-in-Call-2-clause-block
right-returns-in_ok-push-in-Call-2-clause-block t c =
    rw (
      c.in-Call.is,
      c.in_ok-push-in-Call-2.ensures,
      c.in_ok-given-in-Call.ensures.block,
      chain_chain,
      c.in_ok-push-in-Call.ensures,
      chain_chain,
    ) refl

pub element-returns-in_ok-value-in-Value-clause-block : goal.element-returns-in_ok-value-in-Value-clause-block
element-returns-in_ok-value-in-Value-clause-block t c =
    rw c.in-Value.is
    (rw (c.in_ok-value-in-Value.ensures, c.in_ok-index.ensures, c.numbers-size.ensures, c.numbered-number.ensures)
    at c.push.ensures)

pub element-returns-in_ok-value-in-Value-clause-declared : goal.element-returns-in_ok-value-in-Value-clause-declared
element-returns-in_ok-value-in-Value-clause-declared t c =
    ok_any c.push.result (rw c.in-Value.is (sym (append-nil c.args.declared.now.items)))
