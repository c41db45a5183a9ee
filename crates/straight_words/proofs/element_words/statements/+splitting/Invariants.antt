use Rattle.std.proofs.Common.{◌≡◌, ◌+◌, ◌*◌, drop}
use Rattle.straight_words.specs.Below.{block_nodes, chain, statement_nodes, straight_block, straight_tree}
use Rattle.straight_words.specs.element_words.private.Splitting.{split_all}
use Rattle.straight_words.proofs.element_words.statements.+splitting.Given as goal

-- the code so far and that of what is left are the code of all statements
abbrev pub invariant-block-loop-each : goal.invariant-block-loop-each
invariant-block-loop-each l =
    chain (straight_block l.code.items) (split_all l.parts.arrays.items (straight_block (drop l.each-index l.body)))
    ≡ split_all l.fn.parts.arrays.items (straight_block l.fn.body)

-- Each call is for a part of what it is called in.

abbrev pub decreases-statement : goal.decreases-statement
decreases-statement l = 2 * statement_nodes (straight_tree l.statement.now)

abbrev pub decreases-block : goal.decreases-block
decreases-block l = 2 * block_nodes (straight_block l.body.now) + 1
