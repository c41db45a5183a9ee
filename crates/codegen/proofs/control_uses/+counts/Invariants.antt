use Rattle.std.proofs.Common.{◌≡◌, ◌+◌, ◌*◌, drop}
use Rattle.codegen.specs.private.Uses.{controls_read_by_all}
use Rattle.codegen.proofs.Language.{statement_nodes, block_nodes, straight_tree, straight_block}
use Rattle.codegen.proofs.control_uses.+counts.Given as goal

-- with those in the statements that are left, the weights are those of all
abbrev pub invariant-count_by_all-loop-statement : goal.invariant-count_by_all-loop-statement
invariant-count_by_all-loop-statement l =
    controls_read_by_all l.weight (straight_block (drop l.statement-index l.statements)) l.weights
    ≡ controls_read_by_all l.weight (straight_block l.fn.statements) l.fn.weights

abbrev pub decreases-count_by : goal.decreases-count_by
decreases-count_by l = 2 * statement_nodes (straight_tree l.statement.now)

abbrev pub decreases-count_by_all : goal.decreases-count_by_all
decreases-count_by_all l = 2 * block_nodes (straight_block l.statements.now) + 1
