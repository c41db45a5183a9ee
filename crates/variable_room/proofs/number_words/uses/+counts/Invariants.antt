use Rattle.std.proofs.Common.{◌≡◌, ◌+◌, ◌*◌, drop}
use Rattle.variable_room.specs.Below.{block_nodes, statement_nodes, straight_block, straight_tree}
use Rattle.variable_room.specs.number_words.private.Uses.{counted_by_all}
use Rattle.variable_room.proofs.number_words.uses.+counts.Given as goal

-- with those in the statements that are left, all are counted
abbrev pub invariant-count_by_all-loop-statement : goal.invariant-count_by_all-loop-statement
invariant-count_by_all-loop-statement l =
    counted_by_all l.weight (straight_block (drop l.statement-index l.statements)) l.uses.items
    ≡ counted_by_all l.weight (straight_block l.fn.statements) l.fn.uses.items

-- Each call is for a part of what it is called in.

abbrev pub decreases-count_by : goal.decreases-count_by
decreases-count_by l = 2 * statement_nodes (straight_tree l.statement.now)

abbrev pub decreases-count_by_all : goal.decreases-count_by_all
decreases-count_by_all l = 2 * block_nodes (straight_block l.statements.now) + 1
