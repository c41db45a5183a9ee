use Rattle.std.proofs.Common.{◌≡◌, ◌+◌, ◌*◌, drop, max}
use Rattle.codegen.proofs.Machine.{depth_in_all, height_in_all}
use Rattle.codegen.proofs.Language.{statement_nodes, block_nodes, straight_tree, straight_block}
use Rattle.codegen.proofs.heights.+extents.Given as goal

-- the most so far and what is left give what all statements take
abbrev pub invariant-extent_of_all-loop-statement : goal.invariant-extent_of_all-loop-statement
invariant-extent_of_all-loop-statement l =
    let rest = straight_block (drop l.statement-index l.statements) in
    record {
      height : max l.height (height_in_all rest) ≡ height_in_all (straight_block l.fn.statements);
      depth : max l.depth (depth_in_all rest) ≡ depth_in_all (straight_block l.fn.statements);
    }

abbrev pub decreases-extent_of : goal.decreases-extent_of
decreases-extent_of l = 2 * statement_nodes (straight_tree l.statement.now)

abbrev pub decreases-extent_of_all : goal.decreases-extent_of_all
decreases-extent_of_all l = 2 * block_nodes (straight_block l.statements.now) + 1
