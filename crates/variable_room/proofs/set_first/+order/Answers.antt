use Rattle.std.proofs.Common.{rules, refl}
use Rattle.std.proofs.lemmas.List.{at_drop_all}
use Rattle.variable_room.specs.Below.{straight_block}
use Rattle.branch_removal.proofs.StatementTrees.{tree_of_branch, tree_of_loop, accepted_smaller, otherwise_smaller}
use Rattle.branch_removal.proofs.StatementTrees.{body_smaller, item_here, smaller_here}
use Rattle.variable_room.proofs.set_first.+order.Goals as goal

pub sets_first-all_set_first-requires : goal.sets_first-all_set_first-requires
sets_first-all_set_first-requires t c =
    search (
      rules,
      accepted_smaller c.in-Branch.accepted c.in-Branch.otherwise c.in-Branch.is
          c.deref-in-Branch.ensures.value refl,
    )

pub sets_first-all_set_first-requires-in-Branch : goal.sets_first-all_set_first-requires-in-Branch
sets_first-all_set_first-requires-in-Branch t c =
    search (
      rules,
      otherwise_smaller c.in-Branch.accepted c.in-Branch.otherwise c.in-Branch.is refl
          c.deref-in-Branch-2.ensures.value,
    )

pub sets_first-all_set_first-requires-in-Repeat : goal.sets_first-all_set_first-requires-in-Repeat
sets_first-all_set_first-requires-in-Repeat t c =
    search (rules, body_smaller c.in-Repeat.body c.in-Repeat.is c.deref-in-Repeat.ensures.value)

pub all_set_first-sets_first-requires : goal.all_set_first-sets_first-requires
all_set_first-sets_first-requires t c =
    let s = c.statement-item.result in
    let l = c.loop-statement in
    let here = item_here c.args.body.now l.statement-index s c.loop-statement-test.true c.statement-item.is in
    search (rules, smaller_here c.args.body.now l.statement-index s here)

pub sets_first-returns-in_ok-other-in-Branch : goal.sets_first-returns-in_ok-other-in-Branch
sets_first-returns-in_ok-other-in-Branch t c =
    rw (
      tree_of_branch c.in-Branch.accepted c.in-Branch.otherwise c.in-Branch.is c.deref-in-Branch.ensures.value
          c.deref-in-Branch-2.ensures.value,
      c.all_three.ensures,
      c.reads_known-chosen.ensures,
      c.in_ok-one-in-Branch.ensures.first,
      c.in_ok-inside-in-Branch.ensures.items,
      c.in_ok-other-in-Branch.ensures.first,
      c.in_ok-inside-in-Branch-2.ensures.items,
    )

pub sets_first-returns-in_ok-each-in-Repeat : goal.sets_first-returns-in_ok-each-in-Repeat
sets_first-returns-in_ok-each-in-Repeat t c =
    rw (
      tree_of_loop c.in-Repeat.body c.in-Repeat.is c.deref-in-Repeat.ensures.value,
      c.all_three-in-Repeat.ensures,
      c.reads_known-from.ensures,
      c.reads_known-to.ensures,
      c.in_ok-each-in-Repeat.ensures.first,
      c.note.ensures,
      c.in_ok-inside-in-Repeat.ensures.items,
    )

pub all_set_first-loop-statement-preserved : goal.all_set_first-loop-statement-preserved
all_set_first-loop-statement-preserved t c =
    let l = c.loop-statement in
    let here = item_here c.args.body.now l.statement-index c.statement-item.result c.loop-statement-test.true
    c.statement-item.is in
    let fine = rw c.as_slice.ensures.value at c.in_ok-sets_first.ensures in (
      rw (c.note_set_by.ensures, ← l.invariant.0, here, ← fine, c.if-not-branch.false) refl,
      rw (c.note_set_by.ensures, ← l.invariant.1, here) refl,
    )

pub all_set_first-returns-clause-first : goal.all_set_first-returns-clause-first
all_set_first-returns-clause-first t c =
    let l = c.loop-statement in
    let none = at_drop_all (λ xs. straight_block xs) c.args.body.now l.statement-index c.loop-statement-test.false in
    rw (← l.invariant.0, none) refl

pub all_set_first-returns-clause-known : goal.all_set_first-returns-clause-known
all_set_first-returns-clause-known t c =
    let l = c.loop-statement in
    let none = at_drop_all (λ xs. straight_block xs) c.args.body.now l.statement-index c.loop-statement-test.false in
    λ first. rw (← l.invariant.1, none) refl
