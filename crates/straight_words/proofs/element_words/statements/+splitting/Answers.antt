use Rattle.std.proofs.Common.{rules, refl}
use Rattle.std.proofs.lemmas.List.{at_drop_all}
use Rattle.straight_words.specs.Below.{straight_block}
use Rattle.branch_removal.proofs.StatementTrees.{tree_of_branch, tree_of_loop, accepted_smaller, otherwise_smaller}
use Rattle.branch_removal.proofs.StatementTrees.{body_smaller, item_here, smaller_here, chain-assoc, chain-nothing}
use Rattle.straight_words.proofs.element_words.statements.+splitting.Goals as goal

pub block-statement-requires : goal.block-statement-requires
block-statement-requires t c =
    let s = c.each-item.result in
    let l = c.loop-each in
    let here = item_here c.args.body.now l.each-index s c.loop-each-test.true c.each-item.is in
    search (rules, smaller_here c.args.body.now l.each-index s here)

pub statement-block-requires : goal.statement-block-requires
statement-block-requires t c =
    search (
      rules,
      accepted_smaller c.in-Branch.accepted c.in-Branch.otherwise c.in-Branch.is
          c.deref-in-Branch.ensures.value refl,
    )

pub statement-block-requires-in-Branch : goal.statement-block-requires-in-Branch
statement-block-requires-in-Branch t c =
    search (
      rules,
      otherwise_smaller c.in-Branch.accepted c.in-Branch.otherwise c.in-Branch.is refl
          c.deref-in-Branch-2.ensures.value,
    )

pub statement-block-requires-in-Repeat : goal.statement-block-requires-in-Repeat
statement-block-requires-in-Repeat t c =
    search (rules, body_smaller c.in-Repeat.body c.in-Repeat.is c.deref-in-Repeat.ensures.value)

pub statement-returns-in_ok-other-in-Branch : goal.statement-returns-in_ok-other-in-Branch
statement-returns-in_ok-other-in-Branch t c =
    rw (
      tree_of_branch c.in-Branch.accepted c.in-Branch.otherwise c.in-Branch.is c.deref-in-Branch.ensures.value
          c.deref-in-Branch-2.ensures.value,
      ← c.in_ok-condition-in-Branch.ensures,
      ← c.in_ok-one-in-Branch.ensures,
      ← c.in_ok-other-in-Branch.ensures,
      ← c.branch_of.ensures,
    ) c.push-in-Branch.ensures

pub statement-returns-in_ok-iteration-in-Repeat : goal.statement-returns-in_ok-iteration-in-Repeat
statement-returns-in_ok-iteration-in-Repeat t c =
    rw (
      tree_of_loop c.in-Repeat.body c.in-Repeat.is c.deref-in-Repeat.ensures.value,
      ← c.in_ok-low-in-Repeat.ensures,
      ← c.in_ok-high-in-Repeat.ensures,
      ← c.in_ok-iteration-in-Repeat.ensures,
      ← c.loop_of.ensures,
    ) c.push-in-Repeat.ensures

pub block-loop-each-preserved : goal.block-loop-each-preserved
block-loop-each-preserved t c =
    let l = c.loop-each in
    let here = item_here c.args.body.now l.each-index c.each-item.result c.loop-each-test.true c.each-item.is in
    rw (c.in_ok-statement.ensures, chain-assoc, ← l.invariant, here) refl

pub block-returns : goal.block-returns
block-returns t c =
    let l = c.loop-each in
    let none = at_drop_all (λ xs. straight_block xs) c.args.body.now l.each-index c.loop-each-test.false in
    rw (← l.invariant, none, chain-nothing) refl

pub statement-returns-in-Array : goal.statement-returns-in-Array
statement-returns-in-Array t c = rw (c.in-Array.is, ← c.deref.ensures.value) c.new_array.ensures
