use Rattle.std.proofs.Common.{◌≡◌, ◌≤◌, ◌+◌, ◌-◌, ◌*◌, ◌^◌, drop}
use Rattle.optimisation.specs.Below.{block_nodes, statement_nodes, straight_block, straight_tree}
use Rattle.optimisation.specs.constants.private.Choice.{counted}
use Rattle.optimisation.specs.iteration_groups.private.Choice.{body_size}
use Rattle.optimisation.proofs.iteration_groups.choice.+nodes.Given as goal

-- the sum is a count, and with what the statements left have it is the count of all
abbrev pub invariant-nodes_by_all-loop-statement : goal.invariant-nodes_by_all-loop-statement
invariant-nodes_by_all-loop-statement l =
    (l.sum ≤ 2 ^ 64 - 1)
    × (counted (l.sum + body_size (straight_block (drop l.statement-index l.statements)))
    ≡ counted (body_size (straight_block l.statements)))

-- Each call is for a part of what it is called in.

abbrev pub decreases-nodes_by : goal.decreases-nodes_by
decreases-nodes_by l = 2 * statement_nodes (straight_tree l.statement.now)

abbrev pub decreases-nodes_by_all : goal.decreases-nodes_by_all
decreases-nodes_by_all l = 2 * block_nodes (straight_block l.statements.now) + 1
