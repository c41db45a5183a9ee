use Rattle.std.proofs.Common.{rules, refl, ap, arith}
use Rattle.branch_removal.proofs.StatementTrees.{tree_of_branch, tree_of_loop, accepted_smaller, otherwise_smaller}
use Rattle.branch_removal.proofs.StatementTrees.{body_smaller, item_here, smaller_here}
use Rattle.optimisation.specs.constants.private.Costs.{cost_by}
use Rattle.optimisation.proofs.constants.costs.+costs.Goals as goal

pub cost_by-cost_by_all-requires : goal.cost_by-cost_by_all-requires
cost_by-cost_by_all-requires t c =
    search (
      rules,
      accepted_smaller c.in-Branch.accepted c.in-Branch.otherwise c.in-Branch.is c.deref-in-Branch.ensures.value refl,
    )

pub cost_by-cost_by_all-requires-in-Branch : goal.cost_by-cost_by_all-requires-in-Branch
cost_by-cost_by_all-requires-in-Branch t c =
    search (
      rules,
      otherwise_smaller c.in-Branch.accepted c.in-Branch.otherwise c.in-Branch.is refl
          c.deref-in-Branch-2.ensures.value,
    )

pub cost_by-cost_by_all-requires-in-Repeat : goal.cost_by-cost_by_all-requires-in-Repeat
cost_by-cost_by_all-requires-in-Repeat t c =
    search (rules, body_smaller c.in-Repeat.body c.in-Repeat.is c.deref-in-Repeat.ensures.value)

pub cost_by-returns-in-Branch : goal.cost_by-returns-in-Branch
cost_by-returns-in-Branch t c =
    let takes = cost_by c.args.arrays.now.arrays.items c.args.limits.now c.args.known in
    let size = ap takes (tree_of_branch c.in-Branch.accepted c.in-Branch.otherwise c.in-Branch.is
    c.deref-in-Branch.ensures.value c.deref-in-Branch-2.ensures.value) in
    omega (
      arith,
      size,
      c.cost_in-in-Branch.ensures,
      c.cost_by_all.ensures,
      c.cost_by_all-in-Branch.ensures,
      c.saturating_add-in-Branch.ensures,
      c.saturating_add-in-Branch-2.ensures,
      c.saturating_add-in-Branch-3.ensures,
    )

pub cost_by-returns-in-Repeat : goal.cost_by-returns-in-Repeat
cost_by-returns-in-Repeat t c =
    rw (
      tree_of_loop c.in-Repeat.body c.in-Repeat.is c.deref-in-Repeat.ensures.value,
      c.loop_cost.ensures,
      c.cost_by_all-in-Repeat.ensures,
      c.stays_known-known.ensures,
      c.unroll_limit_of-iterations.ensures,
    ) (omega arith)

pub cost_by_all-cost_by-requires : goal.cost_by_all-cost_by-requires
cost_by_all-cost_by-requires t c =
    let s = c.statement-item.result in
    let i = c.loop-statement.statement-index in
    let here = item_here c.args.statements.now i s c.loop-statement-test.true c.statement-item.is in
    search (rules, smaller_here c.args.statements.now i s here)
