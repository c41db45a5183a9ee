use Rattle.std.proofs.Common.{◌≡◌, ◌+◌, ◌*◌, drop}
use Rattle.optimisation.specs.Below.{block_nodes, statement_nodes, straight_block, straight_tree}
use Rattle.optimisation.specs.high_products.private.Replacing.{one_makes_in}
use Rattle.optimisation.proofs.high_products.finding.+finding.Given as goal

-- the statements that are left decide
abbrev pub invariant-one_makes_in-loop-statement : goal.invariant-one_makes_in-loop-statement
invariant-one_makes_in-loop-statement l =
    one_makes_in (straight_block (drop l.statement-index l.statements)) ≡ one_makes_in (straight_block l.statements)

-- Each call is for a part of what it is called in.

abbrev pub decreases-makes_in : goal.decreases-makes_in
decreases-makes_in l = 2 * statement_nodes (straight_tree l.statement.now)

abbrev pub decreases-one_makes_in : goal.decreases-one_makes_in
decreases-one_makes_in l = 2 * block_nodes (straight_block l.statements.now) + 1
