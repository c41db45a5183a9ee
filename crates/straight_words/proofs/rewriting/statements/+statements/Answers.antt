use Rattle.std.proofs.Common.{rules, refl}
use Rattle.std.proofs.lemmas.List.{at_drop_all}
use Rattle.straight_words.specs.Below.{straight_block}
use Rattle.branch_removal.proofs.StatementTrees.{tree_of_branch, tree_of_loop, accepted_smaller, otherwise_smaller}
use Rattle.branch_removal.proofs.StatementTrees.{body_smaller, chain-nothing, chain-push, item_here, smaller_here}
use Rattle.straight_words.proofs.rewriting.statements.+statements.Goals as goal

pub push_all-rewritten_statement-requires : goal.push_all-rewritten_statement-requires
push_all-rewritten_statement-requires g t c =
    let s = c.each-item.result in
    let l = c.loop-each in
    let here = item_here c.args.body.now l.each-index s c.loop-each-test.true c.each-item.is in
    search (rules, smaller_here c.args.body.now l.each-index s here)

pub rewritten_statement-block-requires : goal.rewritten_statement-block-requires
rewritten_statement-block-requires g t c =
    search (
      rules,
      accepted_smaller c.in-Branch.accepted c.in-Branch.otherwise c.in-Branch.is
          c.deref-in-Branch.ensures.value refl,
    )

pub rewritten_statement-block-requires-in-Branch : goal.rewritten_statement-block-requires-in-Branch
rewritten_statement-block-requires-in-Branch g t c =
    search (
      rules,
      otherwise_smaller c.in-Branch.accepted c.in-Branch.otherwise c.in-Branch.is refl
          c.deref-in-Branch-2.ensures.value,
    )

pub rewritten_statement-block-requires-in-Repeat : goal.rewritten_statement-block-requires-in-Repeat
rewritten_statement-block-requires-in-Repeat g t c =
    search (rules, body_smaller c.in-Repeat.body c.in-Repeat.is c.deref-in-Repeat.ensures.value)

pub rewritten_statement-returns-in_ok-other-in-Branch : goal.rewritten_statement-returns-in_ok-other-in-Branch
rewritten_statement-returns-in_ok-other-in-Branch g t c =
    rw (
      tree_of_branch c.in-Branch.accepted c.in-Branch.otherwise c.in-Branch.is c.deref-in-Branch.ensures.value
          c.deref-in-Branch-2.ensures.value,
      ← c.in_ok-condition-in-Branch.ensures,
      ← c.in_ok-one-in-Branch.ensures,
      ← c.in_ok-other-in-Branch.ensures,
    ) c.branch_of.ensures

pub rewritten_statement-returns-in_ok-iteration-in-Repeat : goal.rewritten_statement-returns-in_ok-iteration-in-Repeat
rewritten_statement-returns-in_ok-iteration-in-Repeat g t c =
    rw (
      tree_of_loop c.in-Repeat.body c.in-Repeat.is c.deref-in-Repeat.ensures.value,
      ← c.in_ok-low-in-Repeat.ensures,
      ← c.in_ok-high-in-Repeat.ensures,
      ← c.in_ok-iteration-in-Repeat.ensures,
    ) c.loop_of.ensures

pub push_all-loop-each-preserved : goal.push_all-loop-each-preserved
push_all-loop-each-preserved g t c =
    let l = c.loop-each in
    let here = item_here c.args.body.now l.each-index c.each-item.result c.loop-each-test.true c.each-item.is in
    rw (c.in_ok-push.ensures.items, chain-push, c.in_ok-rewritten_statement.ensures, ← l.invariant, here) refl

pub push_all-returns : goal.push_all-returns
push_all-returns g t c =
    let l = c.loop-each in
    let none = at_drop_all (λ xs. straight_block xs) c.args.body.now l.each-index c.loop-each-test.false in
    rw (← l.invariant, none, chain-nothing) refl

pub rewritten_statement-returns-in_ok-value-in-Set : goal.rewritten_statement-returns-in_ok-value-in-Set
rewritten_statement-returns-in_ok-value-in-Set g t c =
    rw (c.in-Set.is, c.in_ok-value-in-Set.ensures) refl

pub rewritten_statement-returns-in_ok-values-in-Array : goal.rewritten_statement-returns-in_ok-values-in-Array
rewritten_statement-returns-in_ok-values-in-Array g t c =
    rw (c.in-Array.is, c.in_ok-values-in-Array.ensures, c.deref.ensures.value) refl

pub rewritten_statement-returns-in_ok-value-in-Put : goal.rewritten_statement-returns-in_ok-value-in-Put
rewritten_statement-returns-in_ok-value-in-Put g t c =
    rw (c.in-Put.is, c.in_ok-index-in-Put.ensures, c.in_ok-value-in-Put.ensures) refl

pub rewritten_statement-returns-in_ok-condition-in-Take : goal.rewritten_statement-returns-in_ok-condition-in-Take
rewritten_statement-returns-in_ok-condition-in-Take g t c =
    rw (c.in-Take.is, c.in_ok-condition-in-Take.ensures) refl
