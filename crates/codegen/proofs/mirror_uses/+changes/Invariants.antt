use Rattle.std.proofs.Common.{◌≡◌, ◌+◌, ◌*◌, drop}
use Rattle.codegen.specs.private.MirrorUses.{changed_by_all}
use Rattle.codegen.proofs.Language.{statement_nodes, block_nodes, straight_tree, straight_block}
use Rattle.codegen.proofs.mirror_uses.+changes.Given as goal

-- with those of the statements that are left, the counts are those of all
abbrev pub invariant-count_all_changes-loop-statement : goal.invariant-count_all_changes-loop-statement
invariant-count_all_changes-loop-statement l =
    changed_by_all l.weight (straight_block (drop l.statement-index l.statements)) l.counts
    ≡ changed_by_all l.weight (straight_block l.fn.statements) l.fn.counts

abbrev pub decreases-count_changes : goal.decreases-count_changes
decreases-count_changes l = 2 * statement_nodes (straight_tree l.statement.now)

abbrev pub decreases-count_all_changes : goal.decreases-count_all_changes
decreases-count_all_changes l = 2 * block_nodes (straight_block l.statements.now) + 1
