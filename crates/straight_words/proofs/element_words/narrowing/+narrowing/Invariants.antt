use Rattle.std.proofs.Common.{◌≡◌, ◌+◌, ◌*◌, drop}
use Rattle.straight_words.specs.Below.{block_nodes, statement_nodes, straight_block, straight_tree}
use Rattle.straight_words.specs.element_words.private.Narrowing.{narrowed_by_all}
use Rattle.straight_words.proofs.element_words.narrowing.+narrowing.Given as goal

-- the uses that are left leave what all leave
abbrev pub invariant-narrow_by_all-loop-statement : goal.invariant-narrow_by_all-loop-statement
invariant-narrow_by_all-loop-statement l =
    narrowed_by_all l.parts.arrays.items (straight_block (drop l.statement-index l.body))
    ≡ narrowed_by_all l.fn.parts.arrays.items (straight_block l.fn.body)

-- Each call is for a part of what it is called in.

abbrev pub decreases-narrow_by : goal.decreases-narrow_by
decreases-narrow_by l = 2 * statement_nodes (straight_tree l.statement.now)

abbrev pub decreases-narrow_by_all : goal.decreases-narrow_by_all
decreases-narrow_by_all l = 2 * block_nodes (straight_block l.body.now) + 1
