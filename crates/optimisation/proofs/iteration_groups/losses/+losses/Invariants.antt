use Rattle.std.proofs.Common.{◌≡◌, ◌≤◌, ◌+◌, ◌-◌, ◌*◌, ◌^◌, drop}
use Rattle.optimisation.specs.Below.{block_nodes, statement_nodes, straight_block, straight_tree}
use Rattle.optimisation.specs.iteration_groups.private.Losses.{lost_by_all}
use Rattle.optimisation.specs.private.Nodes.{counted}
use Rattle.optimisation.proofs.iteration_groups.losses.+losses.Given as goal

-- the sum is a count, and with what the statements left lose it is the count of all
abbrev pub invariant-lost_by_all-loop-statement : goal.invariant-lost_by_all-loop-statement
invariant-lost_by_all-loop-statement l =
    let all_lose = lost_by_all l.arrays.arrays.items l.counter in
    (l.sum ≤ 2 ^ 64 - 1)
    × (counted (l.sum + all_lose (straight_block (drop l.statement-index l.statements)))
    ≡ counted (all_lose (straight_block l.statements)))

-- Each call is for a part of what it is called in.

abbrev pub decreases-lost_by : goal.decreases-lost_by
decreases-lost_by l = 2 * statement_nodes (straight_tree l.statement.now)

abbrev pub decreases-lost_by_all : goal.decreases-lost_by_all
decreases-lost_by_all l = 2 * block_nodes (straight_block l.statements.now) + 1
