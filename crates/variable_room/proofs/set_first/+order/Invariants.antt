use Rattle.std.proofs.Common.{◌≡◌, ◌+◌, ◌*◌, drop}
use Rattle.variable_room.specs.Below.{block_nodes, statement_nodes, straight_block, straight_tree}
use Rattle.variable_room.specs.set_first.Order.{all_set_first, known_behind}
use Rattle.variable_room.proofs.set_first.+order.Given as goal

-- the statements that are left decide, and what was set behind them
abbrev pub invariant-all_set_first-loop-statement : goal.invariant-all_set_first-loop-statement
invariant-all_set_first-loop-statement l =
    (all_set_first l.known.items (straight_block (drop l.statement-index l.body))
    ≡ all_set_first l.fn.known.items (straight_block l.body))
    × (known_behind l.known.items (straight_block (drop l.statement-index l.body))
    ≡ known_behind l.fn.known.items (straight_block l.body))

-- Each call is for a part of what it is called in.

abbrev pub decreases-sets_first : goal.decreases-sets_first
decreases-sets_first l = 2 * statement_nodes (straight_tree l.statement.now)

abbrev pub decreases-all_set_first : goal.decreases-all_set_first
decreases-all_set_first l = 2 * block_nodes (straight_block l.body.now) + 1
