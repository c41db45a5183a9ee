use Rattle.std.proofs.Common.{◌≡◌, ◌≤◌, ◌+◌, ◌-◌, ◌*◌, ◌^◌, drop, max}
use Rattle.branch_removal.specs.Bounds.{block_nodes, block_work, statement_nodes}
use Rattle.branch_removal.specs.Heights.{depth_in_all, height_in_all}
use Rattle.branch_removal.specs.Straight.{straight_block, straight_tree}
use Rattle.branch_removal.specs.private.Counts.{counted, told}
use Rattle.branch_removal.proofs.sizes.+sizes.Given as goal

-- with what the statements left have, the counts are those of all
abbrev pub invariant-block_size-loop-statement : goal.invariant-block_size-loop-statement
invariant-block_size-loop-statement l =
    let rest = straight_block (drop l.statement-index l.statements) in
    let all = straight_block l.statements in
    record {
      few : l.work ≤ 2 ^ 64 - 1;
      work : told (l.work + block_work l.iterations rest) ≡ told (block_work l.iterations all);
      height : max l.height (counted (height_in_all rest)) ≡ counted (height_in_all all);
      depth : max l.depth (counted (depth_in_all rest)) ≡ counted (depth_in_all all);
    }

abbrev pub decreases-statement_size : goal.decreases-statement_size
decreases-statement_size l = 2 * statement_nodes (straight_tree l.statement.now)

abbrev pub decreases-block_size : goal.decreases-block_size
decreases-block_size l = 2 * block_nodes (straight_block l.statements.now) + 1
