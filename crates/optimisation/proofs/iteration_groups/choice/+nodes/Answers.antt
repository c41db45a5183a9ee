use Rattle.std.proofs.Common.{rules, refl, ap, arith}
use Rattle.branch_removal.proofs.StatementTrees.{tree_of_branch, tree_of_loop, accepted_smaller, otherwise_smaller}
use Rattle.branch_removal.proofs.StatementTrees.{body_smaller, item_here, smaller_here}
use Rattle.optimisation.specs.iteration_groups.private.Choice.{statement_size}
use Rattle.optimisation.proofs.iteration_groups.choice.+nodes.Goals as goal

pub nodes_by-nodes_by_all-requires : goal.nodes_by-nodes_by_all-requires
nodes_by-nodes_by_all-requires t c =
    search (
      rules,
      accepted_smaller c.in-Branch.accepted c.in-Branch.otherwise c.in-Branch.is c.deref-in-Branch.ensures.value refl,
    )

pub nodes_by-nodes_by_all-requires-in-Branch : goal.nodes_by-nodes_by_all-requires-in-Branch
nodes_by-nodes_by_all-requires-in-Branch t c =
    search (
      rules,
      otherwise_smaller c.in-Branch.accepted c.in-Branch.otherwise c.in-Branch.is refl
          c.deref-in-Branch-2.ensures.value,
    )

pub nodes_by-nodes_by_all-requires-in-Repeat : goal.nodes_by-nodes_by_all-requires-in-Repeat
nodes_by-nodes_by_all-requires-in-Repeat t c =
    search (rules, body_smaller c.in-Repeat.body c.in-Repeat.is c.deref-in-Repeat.ensures.value)

pub nodes_by-returns-in-Branch : goal.nodes_by-returns-in-Branch
nodes_by-returns-in-Branch t c =
    let size = ap statement_size (tree_of_branch c.in-Branch.accepted c.in-Branch.otherwise c.in-Branch.is
    c.deref-in-Branch.ensures.value c.deref-in-Branch-2.ensures.value) in
    omega (
      arith,
      size,
      c.nodes_in-in-Branch.ensures,
      c.nodes_by_all.ensures,
      c.nodes_by_all-in-Branch.ensures,
      c.saturating_add-in-Branch.ensures,
      c.saturating_add-in-Branch-2.ensures,
      c.saturating_add-in-Branch-3.ensures,
    )

pub nodes_by-returns-in-Repeat : goal.nodes_by-returns-in-Repeat
nodes_by-returns-in-Repeat t c =
    let size = ap statement_size (tree_of_loop c.in-Repeat.body c.in-Repeat.is c.deref-in-Repeat.ensures.value) in
    omega (
      arith,
      size,
      c.nodes_in-in-Repeat.ensures,
      c.nodes_in-in-Repeat-2.ensures,
      c.nodes_by_all-in-Repeat.ensures,
      c.saturating_add-in-Repeat.ensures,
      c.saturating_add-in-Repeat-2.ensures,
      c.saturating_add-in-Repeat-3.ensures,
    )

pub nodes_by_all-nodes_by-requires : goal.nodes_by_all-nodes_by-requires
nodes_by_all-nodes_by-requires t c =
    let s = c.statement-item.result in
    let i = c.loop-statement.statement-index in
    let here = item_here c.args.statements.now i s c.loop-statement-test.true c.statement-item.is in
    search (rules, smaller_here c.args.statements.now i s here)
