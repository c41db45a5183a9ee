use Rattle.std.proofs.Common.{rules, ◌+◌, refl, ap, arith}
use Rattle.branch_removal.specs.Bounds.{block_work, iterations_counted, statement_work}
use Rattle.branch_removal.specs.Heights.{depth_in, height_in}
use Rattle.branch_removal.specs.Straight.{straight_block}
use Rattle.branch_removal.proofs.StatementTrees.{tree_of_branch, tree_of_loop, accepted_smaller, otherwise_smaller}
use Rattle.branch_removal.proofs.StatementTrees.{body_smaller, item_here, smaller_here}
use Rattle.branch_removal.proofs.CheckedSizes.{loop_counted}
use Rattle.branch_removal.specs.Below.{term_nodes, term_tree}
use Rattle.branch_removal.proofs.sizes.+sizes.Goals as goal

pub statement_size-block_size-one-requires : goal.statement_size-block_size-one-requires
statement_size-block_size-one-requires t c =
    let b = c.in-Branch in
    search (rules, accepted_smaller b.accepted b.otherwise b.is c.deref-in-Branch.ensures.value refl)

pub statement_size-block_size-other-requires : goal.statement_size-block_size-other-requires
statement_size-block_size-other-requires t c =
    let b = c.in-Branch in
    search (rules, otherwise_smaller b.accepted b.otherwise b.is refl c.deref-in-Branch-2.ensures.value)

pub statement_size-block_size-iteration-requires : goal.statement_size-block_size-iteration-requires
statement_size-block_size-iteration-requires t c =
    search (rules, body_smaller c.in-Repeat.body c.in-Repeat.is c.deref-in-Repeat.ensures.value)

pub block_size-statement_size-one-requires : goal.block_size-statement_size-one-requires
block_size-statement_size-one-requires t c =
    let s = c.statement-item.result in
    let i = c.loop-statement.statement-index in
    let here = item_here c.args.statements.now i s c.loop-statement-test.true c.statement-item.is in
    search (rules, smaller_here c.args.statements.now i s here)

pub statement_size-returns-in-Branch-clause-work : goal.statement_size-returns-in-Branch-clause-work
statement_size-returns-in-Branch-clause-work t c =
    let b = c.in-Branch in
    let tree = tree_of_branch b.accepted b.otherwise b.is c.deref-in-Branch.ensures.value
    c.deref-in-Branch-2.ensures.value in
    omega (arith, ap (statement_work c.args.iterations.now) tree)

pub statement_size-returns-in-Branch-clause-height : goal.statement_size-returns-in-Branch-clause-height
statement_size-returns-in-Branch-clause-height t c =
    let b = c.in-Branch in
    let tree = tree_of_branch b.accepted b.otherwise b.is c.deref-in-Branch.ensures.value
    c.deref-in-Branch-2.ensures.value in
    omega (arith, ap height_in tree)

pub statement_size-returns-in-Branch-clause-depth : goal.statement_size-returns-in-Branch-clause-depth
statement_size-returns-in-Branch-clause-depth t c =
    let b = c.in-Branch in
    let tree = tree_of_branch b.accepted b.otherwise b.is c.deref-in-Branch.ensures.value
    c.deref-in-Branch-2.ensures.value in
    omega (arith, ap depth_in tree)

pub statement_size-returns-in-Repeat-clause-work : goal.statement_size-returns-in-Repeat-clause-work
statement_size-returns-in-Repeat-clause-work t c =
    let r = c.in-Repeat in
    let tree = tree_of_loop r.body r.is c.deref-in-Repeat.ensures.value in
    let iterations = c.args.iterations.now in
    let body = straight_block c.deref-in-Repeat.result.now in
    rw (c.loop_size.ensures.work, c.from-in-Repeat.ensures, c.iterations_counted-count.ensures, tree)
    (loop_counted (term_nodes (term_tree r.low) + term_nodes (term_tree r.high))
    (iterations_counted iterations r.counter (term_tree r.low) (term_tree r.high))
    (block_work iterations body) c.block_size-iteration.result.work c.block_size-iteration.ensures.work)

pub statement_size-returns-in-Repeat-clause-height : goal.statement_size-returns-in-Repeat-clause-height
statement_size-returns-in-Repeat-clause-height t c =
    let tree = tree_of_loop c.in-Repeat.body c.in-Repeat.is c.deref-in-Repeat.ensures.value in
    omega (arith, ap height_in tree)

pub statement_size-returns-in-Repeat-clause-depth : goal.statement_size-returns-in-Repeat-clause-depth
statement_size-returns-in-Repeat-clause-depth t c =
    let tree = tree_of_loop c.in-Repeat.body c.in-Repeat.is c.deref-in-Repeat.ensures.value in
    omega (arith, ap depth_in tree)
