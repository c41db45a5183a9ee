use Rattle.std.proofs.Common.{rules, refl}
use Rattle.branch_removal.proofs.StatementTrees.{tree_of_branch, tree_of_loop, accepted_smaller, otherwise_smaller}
use Rattle.branch_removal.proofs.StatementTrees.{body_smaller, item_here, smaller_here}
use Rattle.codegen.proofs.fresh.+freshness.Goals as goal

pub passes-is_fresh-requires : goal.passes-is_fresh-requires
passes-is_fresh-requires t c =
    let b = c.in-Branch in
    search (rules, accepted_smaller b.accepted b.otherwise b.is c.deref-then-not-names_in.ensures.value refl)

pub passes-is_fresh-requires-then-is_fresh : goal.passes-is_fresh-requires-then-is_fresh
passes-is_fresh-requires-then-is_fresh t c =
    let b = c.in-Branch in
    search (rules, otherwise_smaller b.accepted b.otherwise b.is refl c.deref-then-is_fresh.ensures.value)

pub passes-is_fresh-requires-then-not-names_in-2 : goal.passes-is_fresh-requires-then-not-names_in-2
passes-is_fresh-requires-then-not-names_in-2 t c =
    search (rules, body_smaller c.in-Repeat.body c.in-Repeat.is c.deref-then-not-names_in-2.ensures.value)

pub passes-returns-else-is_fresh : goal.passes-returns-else-is_fresh
passes-returns-else-is_fresh t c =
    let b = c.in-Branch in
    rw (tree_of_branch b.accepted b.otherwise b.is c.deref-then-not-names_in.ensures.value refl) (search rules)

pub passes-returns-then-is_fresh : goal.passes-returns-then-is_fresh
passes-returns-then-is_fresh t c =
    let b = c.in-Branch in
    let tree = tree_of_branch b.accepted b.otherwise b.is c.deref-then-not-names_in.ensures.value
    c.deref-then-is_fresh.ensures.value in
    rw tree (search rules)

pub passes-returns-then-not-names_in-2 : goal.passes-returns-then-not-names_in-2
passes-returns-then-not-names_in-2 t c =
    rw (tree_of_loop c.in-Repeat.body c.in-Repeat.is c.deref-then-not-names_in-2.ensures.value) (search rules)

pub is_fresh-passes-requires : goal.is_fresh-passes-requires
is_fresh-passes-requires t c =
    let s = c.statement-item.result in
    let l = c.loop-statement in
    let here = item_here c.args.statements.now l.statement-index s c.loop-statement-test.true c.statement-item.is in
    search (rules, smaller_here c.args.statements.now l.statement-index s here)
