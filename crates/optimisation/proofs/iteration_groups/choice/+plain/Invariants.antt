use Rattle.std.proofs.Common.{◌≡◌, ◌+◌, ◌*◌, drop}
use Rattle.optimisation.specs.Below.{block_nodes, statement_nodes, straight_block, straight_tree}
use Rattle.optimisation.specs.iteration_groups.private.Choice.{are_plain}
use Rattle.optimisation.proofs.iteration_groups.choice.+plain.Given as goal

-- the statements that are left decide
abbrev pub invariant-are_plain-loop-statement : goal.invariant-are_plain-loop-statement
invariant-are_plain-loop-statement l =
    are_plain l.variable (straight_block (drop l.statement-index l.statements))
    ≡ are_plain l.variable (straight_block l.statements)

-- Each call is for a part of what it is called in.

abbrev pub decreases-is_plain : goal.decreases-is_plain
decreases-is_plain l = 2 * statement_nodes (straight_tree l.statement.now)

abbrev pub decreases-are_plain : goal.decreases-are_plain
decreases-are_plain l = 2 * block_nodes (straight_block l.statements.now) + 1
