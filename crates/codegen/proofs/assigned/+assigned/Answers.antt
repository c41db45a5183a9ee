use Rattle.std.proofs.Common.{rules, refl}
use Rattle.branch_removal.proofs.StatementTrees.{tree_of_branch, tree_of_loop, accepted_smaller, otherwise_smaller}
use Rattle.branch_removal.proofs.StatementTrees.{body_smaller, item_here, smaller_here}
use Rattle.codegen.proofs.assigned.+assigned.Goals as goal

pub sets-any_sets-requires : goal.sets-any_sets-requires
sets-any_sets-requires t c =
    let b = c.in-Branch in
    search (rules, accepted_smaller b.accepted b.otherwise b.is c.deref.ensures.value refl)

pub sets-any_sets-requires-else-any_sets : goal.sets-any_sets-requires-else-any_sets
sets-any_sets-requires-else-any_sets t c =
    let b = c.in-Branch in
    search (rules, otherwise_smaller b.accepted b.otherwise b.is refl c.deref-else-any_sets.ensures.value)

pub sets-any_sets-requires-else-counter-variable : goal.sets-any_sets-requires-else-counter-variable
sets-any_sets-requires-else-counter-variable t c =
    search (rules, body_smaller c.in-Repeat.body c.in-Repeat.is c.deref-else-counter-variable.ensures.value)

pub sets-returns-then-any_sets : goal.sets-returns-then-any_sets
sets-returns-then-any_sets t c =
    let b = c.in-Branch in
    rw (tree_of_branch b.accepted b.otherwise b.is c.deref.ensures.value refl) (search rules)

pub sets-returns-else-any_sets : goal.sets-returns-else-any_sets
sets-returns-else-any_sets t c =
    let b = c.in-Branch in
    rw (tree_of_branch b.accepted b.otherwise b.is c.deref.ensures.value c.deref-else-any_sets.ensures.value)
    (search rules)

pub sets-returns-else-counter-variable : goal.sets-returns-else-counter-variable
sets-returns-else-counter-variable t c =
    rw (tree_of_loop c.in-Repeat.body c.in-Repeat.is c.deref-else-counter-variable.ensures.value) (search rules)

pub any_sets-sets-requires : goal.any_sets-sets-requires
any_sets-sets-requires t c =
    let s = c.statement-item.result in
    let l = c.loop-statement in
    let here = item_here c.args.statements.now l.statement-index s c.loop-statement-test.true c.statement-item.is in
    search (rules, smaller_here c.args.statements.now l.statement-index s here)
