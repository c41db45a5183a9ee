use Rattle.std.proofs.Common.{◌≡◌, ◌≤◌, ◌+◌, ◌-◌, ◌*◌, ◌^◌, drop}
use Rattle.optimisation.specs.Below.{block_nodes, statement_nodes, straight_block, straight_tree}
use Rattle.optimisation.specs.constants.private.Costs.{cost_by_all}
use Rattle.optimisation.specs.private.Nodes.{counted}
use Rattle.optimisation.proofs.constants.costs.+costs.Given as goal

-- the sum is a count, and with what the statements left take it is the count of all
abbrev pub invariant-cost_by_all-loop-statement : goal.invariant-cost_by_all-loop-statement
invariant-cost_by_all-loop-statement l =
    let all_take = cost_by_all l.arrays.arrays.items l.limits l.known in
    (l.sum ≤ 2 ^ 64 - 1)
    × (counted (l.sum + all_take (straight_block (drop l.statement-index l.statements)))
    ≡ counted (all_take (straight_block l.statements)))

-- Each call is for a part of what it is called in.

abbrev pub decreases-cost_by : goal.decreases-cost_by
decreases-cost_by l = 2 * statement_nodes (straight_tree l.statement.now)

abbrev pub decreases-cost_by_all : goal.decreases-cost_by_all
decreases-cost_by_all l = 2 * block_nodes (straight_block l.statements.now) + 1
