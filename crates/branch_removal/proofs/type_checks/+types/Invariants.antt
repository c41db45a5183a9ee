use Rattle.std.proofs.Common.{◌≡◌, ◌+◌, ◌*◌, drop}
use Rattle.branch_removal.specs.Bounds.{block_nodes, statement_nodes}
use Rattle.branch_removal.specs.Straight.{straight_block, straight_tree}
use Rattle.branch_removal.specs.private.Checks.{are_typed}
use Rattle.branch_removal.proofs.type_checks.+types.Given as goal

-- those that are left are well typed where all are
abbrev pub invariant-are_typed-loop-statement : goal.invariant-are_typed-loop-statement
invariant-are_typed-loop-statement l =
    are_typed l.profile l.declared l.controls (straight_block (drop l.statement-index l.statements))
    ≡ are_typed l.profile l.declared l.controls (straight_block l.statements)

abbrev pub decreases-is_typed : goal.decreases-is_typed
decreases-is_typed l = 2 * statement_nodes (straight_tree l.statement.now)

abbrev pub decreases-are_typed : goal.decreases-are_typed
decreases-are_typed l = 2 * block_nodes (straight_block l.statements.now) + 1
