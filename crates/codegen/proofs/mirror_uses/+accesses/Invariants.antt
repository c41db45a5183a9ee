use Rattle.std.proofs.Common.{◌≡◌, ◌+◌, ◌*◌, drop}
use Rattle.codegen.specs.private.MirrorUses.{reached_by_all}
use Rattle.codegen.proofs.Language.{statement_nodes, block_nodes, straight_tree, straight_block}
use Rattle.codegen.proofs.mirror_uses.+accesses.Given as goal

-- with those in the statements that are left, the counts are those of all
abbrev pub invariant-count_by_all-loop-statement : goal.invariant-count_by_all-loop-statement
invariant-count_by_all-loop-statement l =
    let declared = l.elements.declared.now in
    let bytes = l.elements.bytes in
    reached_by_all declared bytes l.weight (straight_block (drop l.statement-index l.statements)) l.counts
    ≡ reached_by_all declared bytes l.weight (straight_block l.fn.statements) l.fn.counts

abbrev pub decreases-count_by : goal.decreases-count_by
decreases-count_by l = 2 * statement_nodes (straight_tree l.statement.now)

abbrev pub decreases-count_by_all : goal.decreases-count_by_all
decreases-count_by_all l = 2 * block_nodes (straight_block l.statements.now) + 1
