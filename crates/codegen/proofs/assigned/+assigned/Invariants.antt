use Rattle.std.proofs.Common.{◌≡◌, ◌+◌, ◌*◌, drop}
use Rattle.codegen.proofs.Language.{statement_nodes, block_nodes, straight_tree, straight_block}
use Rattle.codegen.proofs.assigned.+assigned.Given as goal
use Rattle.codegen.specs.private.Loops.{any_sets}

-- one of the statements that are left sets the variable where one of all does
abbrev pub invariant-any_sets-loop-statement : goal.invariant-any_sets-loop-statement
invariant-any_sets-loop-statement l =
    any_sets l.variable (straight_block (drop l.statement-index l.statements))
    ≡ any_sets l.variable (straight_block l.fn.statements)

abbrev pub decreases-sets : goal.decreases-sets
decreases-sets l = 2 * statement_nodes (straight_tree l.statement.now)

abbrev pub decreases-any_sets : goal.decreases-any_sets
decreases-any_sets l = 2 * block_nodes (straight_block l.statements.now) + 1
