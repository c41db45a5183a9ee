use Rattle.std.proofs.Common.{rules, refl}
use Rattle.branch_removal.proofs.StatementTrees.{tree_of_branch, tree_of_loop, accepted_smaller, otherwise_smaller}
use Rattle.branch_removal.proofs.StatementTrees.{body_smaller, item_here, smaller_here}
use Rattle.codegen.proofs.mirror_uses.+changes.Goals as goal

pub count_changes-count_all_changes-requires : goal.count_changes-count_all_changes-requires
count_changes-count_all_changes-requires t c =
    let b = c.in-Branch in
    search (rules, accepted_smaller b.accepted b.otherwise b.is c.deref.ensures.value refl)

pub count_changes-count_all_changes-requires-in-Branch : goal.count_changes-count_all_changes-requires-in-Branch
count_changes-count_all_changes-requires-in-Branch t c =
    let b = c.in-Branch in
    search (rules, otherwise_smaller b.accepted b.otherwise b.is refl c.deref-in-Branch.ensures.value)

pub count_changes-count_all_changes-requires-in-Repeat : goal.count_changes-count_all_changes-requires-in-Repeat
count_changes-count_all_changes-requires-in-Repeat t c =
    search (rules, body_smaller c.in-Repeat.body c.in-Repeat.is c.deref-in-Repeat.ensures.value)

pub count_changes-returns-in-Branch : goal.count_changes-returns-in-Branch
count_changes-returns-in-Branch t c =
    rw (
      c.count_all_changes-in-Branch.ensures,
      c.count_all_changes.ensures,
      tree_of_branch c.in-Branch.accepted c.in-Branch.otherwise c.in-Branch.is c.deref.ensures.value
          c.deref-in-Branch.ensures.value,
    )

pub count_changes-returns-in-Repeat : goal.count_changes-returns-in-Repeat
count_changes-returns-in-Repeat t c =
    rw (
      c.count_all_changes-in-Repeat.ensures,
      c.count_use-in-Repeat-2.ensures,
      c.count_use-in-Repeat.ensures,
      c.weight_inside-inside.ensures,
      tree_of_loop c.in-Repeat.body c.in-Repeat.is c.deref-in-Repeat.ensures.value,
    )

pub count_all_changes-count_changes-requires : goal.count_all_changes-count_changes-requires
count_all_changes-count_changes-requires t c =
    let s = c.statement-item.result in
    let l = c.loop-statement in
    let here = item_here c.args.statements.now l.statement-index s c.loop-statement-test.true c.statement-item.is in
    search (rules, smaller_here c.args.statements.now l.statement-index s here)
