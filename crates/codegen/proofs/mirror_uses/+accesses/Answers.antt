use Rattle.std.proofs.Common.{rules, refl}
use Rattle.branch_removal.proofs.StatementTrees.{tree_of_branch, tree_of_loop, accepted_smaller, otherwise_smaller}
use Rattle.branch_removal.proofs.StatementTrees.{body_smaller, item_here, smaller_here}
use Rattle.codegen.proofs.mirror_uses.+accesses.Goals as goal

pub count_by-count_by_all-requires : goal.count_by-count_by_all-requires
count_by-count_by_all-requires t c =
    let b = c.in-Branch in
    search (rules, accepted_smaller b.accepted b.otherwise b.is c.deref-in-Branch.ensures.value refl)

pub count_by-count_by_all-requires-in-Branch : goal.count_by-count_by_all-requires-in-Branch
count_by-count_by_all-requires-in-Branch t c =
    let b = c.in-Branch in
    search (rules, otherwise_smaller b.accepted b.otherwise b.is refl c.deref-in-Branch-2.ensures.value)

pub count_by-count_by_all-requires-in-Repeat : goal.count_by-count_by_all-requires-in-Repeat
count_by-count_by_all-requires-in-Repeat t c =
    search (rules, body_smaller c.in-Repeat.body c.in-Repeat.is c.deref-in-Repeat.ensures.value)

pub count_by-returns-in-Branch : goal.count_by-returns-in-Branch
count_by-returns-in-Branch t c =
    rw (
      c.count_by_all-in-Branch.ensures,
      c.count_by_all.ensures,
      c.count_in-in-Branch.ensures,
      tree_of_branch c.in-Branch.accepted c.in-Branch.otherwise c.in-Branch.is c.deref-in-Branch.ensures.value
          c.deref-in-Branch-2.ensures.value,
    )

pub count_by-returns-in-Repeat : goal.count_by-returns-in-Repeat
count_by-returns-in-Repeat t c =
    rw (
      c.count_by_all-in-Repeat.ensures,
      c.weight_inside.ensures,
      c.count_in-in-Repeat-2.ensures,
      c.count_in-in-Repeat.ensures,
      tree_of_loop c.in-Repeat.body c.in-Repeat.is c.deref-in-Repeat.ensures.value,
    )

pub count_by_all-count_by-requires : goal.count_by_all-count_by-requires
count_by_all-count_by-requires t c =
    let s = c.statement-item.result in
    let l = c.loop-statement in
    let here = item_here c.args.statements.now l.statement-index s c.loop-statement-test.true c.statement-item.is in
    search (rules, smaller_here c.args.statements.now l.statement-index s here)
