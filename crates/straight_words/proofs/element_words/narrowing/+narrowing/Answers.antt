use Rattle.std.proofs.Common.{rules, refl}
use Rattle.branch_removal.proofs.StatementTrees.{tree_of_branch, tree_of_loop, accepted_smaller, otherwise_smaller}
use Rattle.branch_removal.proofs.StatementTrees.{body_smaller, item_here, smaller_here}
use Rattle.straight_words.proofs.element_words.narrowing.+narrowing.Goals as goal

pub narrow_by-narrow_by_all-requires : goal.narrow_by-narrow_by_all-requires
narrow_by-narrow_by_all-requires t c =
    search (
      rules,
      accepted_smaller c.in-Branch.accepted c.in-Branch.otherwise c.in-Branch.is
          c.deref-in-Branch.ensures.value refl,
    )

pub narrow_by-narrow_by_all-requires-in-Branch : goal.narrow_by-narrow_by_all-requires-in-Branch
narrow_by-narrow_by_all-requires-in-Branch t c =
    search (
      rules,
      otherwise_smaller c.in-Branch.accepted c.in-Branch.otherwise c.in-Branch.is refl
          c.deref-in-Branch-2.ensures.value,
    )

pub narrow_by-narrow_by_all-requires-in-Repeat : goal.narrow_by-narrow_by_all-requires-in-Repeat
narrow_by-narrow_by_all-requires-in-Repeat t c =
    search (rules, body_smaller c.in-Repeat.body c.in-Repeat.is c.deref-in-Repeat.ensures.value)

pub narrow_by-returns-in-Branch : goal.narrow_by-returns-in-Branch
narrow_by-returns-in-Branch t c =
    rw (
      tree_of_branch c.in-Branch.accepted c.in-Branch.otherwise c.in-Branch.is c.deref-in-Branch.ensures.value
          c.deref-in-Branch-2.ensures.value,
      c.narrow_by_all-in-Branch.ensures,
      c.narrow_by_all.ensures,
      c.narrow.ensures,
    )

pub narrow_by-returns-in-Repeat : goal.narrow_by-returns-in-Repeat
narrow_by-returns-in-Repeat t c =
    rw (
      tree_of_loop c.in-Repeat.body c.in-Repeat.is c.deref-in-Repeat.ensures.value,
      c.narrow_by_all-in-Repeat.ensures,
      c.narrow-in-Repeat-2.ensures,
      c.narrow-in-Repeat.ensures,
    )

pub narrow_by_all-narrow_by-requires : goal.narrow_by_all-narrow_by-requires
narrow_by_all-narrow_by-requires t c =
    let s = c.statement-item.result in
    let l = c.loop-statement in
    let here = item_here c.args.body.now l.statement-index s c.loop-statement-test.true c.statement-item.is in
    search (rules, smaller_here c.args.body.now l.statement-index s here)
