use Rattle.std.proofs.Common.{◌≡◌, ◌+◌, ◌*◌, drop}
use Rattle.codegen.proofs.Language.{statement_nodes, block_nodes, straight_tree, straight_block, term_tree}
use Rattle.codegen.proofs.Logic.{option_map}
use Rattle.codegen.proofs.fresh.+freshness.Given as goal
use Rattle.codegen.specs.private.Fresh.{is_fresh}

-- the variable is fresh in the statements that are left where it is in all of them
abbrev pub invariant-is_fresh-loop-statement : goal.invariant-is_fresh-loop-statement
invariant-is_fresh-loop-statement l =
    let value = option_map (λ term. term_tree term.now) l.fn.value in
    is_fresh l.fn.variable (straight_block (drop l.statement-index l.statements)) value
    ≡ is_fresh l.fn.variable (straight_block l.fn.statements) value

abbrev pub decreases-passes : goal.decreases-passes
decreases-passes l = 2 * statement_nodes (straight_tree l.statement.now)

abbrev pub decreases-is_fresh : goal.decreases-is_fresh
decreases-is_fresh l = 2 * block_nodes (straight_block l.statements.now) + 1
