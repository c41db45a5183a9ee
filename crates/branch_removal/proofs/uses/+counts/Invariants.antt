use Rattle.std.proofs.Common.{◌≡◌, ◌+◌, ◌*◌, drop}
use Rattle.branch_removal.specs.Uses.{used_by_all}
use Rattle.branch_removal.specs.Bounds.{statement_nodes, block_nodes}
use Rattle.branch_removal.specs.Straight.{straight_tree, straight_block}
use Rattle.branch_removal.proofs.uses.+counts.Given as goal

-- with those in the statements that are left, the weights are those of all
abbrev pub invariant-count_by_all-loop-statement : goal.invariant-count_by_all-loop-statement
invariant-count_by_all-loop-statement l =
    used_by_all l.weight (straight_block (drop l.statement-index l.statements)) l.weights
    ≡ used_by_all l.weight (straight_block l.fn.statements) l.fn.weights

abbrev pub decreases-count_by : goal.decreases-count_by
decreases-count_by l = 2 * statement_nodes (straight_tree l.statement.now)

abbrev pub decreases-count_by_all : goal.decreases-count_by_all
decreases-count_by_all l = 2 * block_nodes (straight_block l.statements.now) + 1
