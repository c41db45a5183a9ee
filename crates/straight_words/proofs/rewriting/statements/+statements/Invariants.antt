use Rattle.std.proofs.Common.{◌≡◌, ◌+◌, ◌*◌, drop}
use Rattle.straight_words.specs.Below.{block_nodes, chain, statement_nodes, straight_block, straight_tree}
use Rattle.straight_words.specs.private.Rewriting.{rewritten_all}
use Rattle.straight_words.proofs.rewriting.statements.+statements.Given as goal

-- the code so far and that of what is left are the code of all statements
abbrev pub invariant-push_all-loop-each : goal.invariant-push_all-loop-each
invariant-push_all-loop-each g l =
    chain (straight_block l.code.items)
    (rewritten_all (g.R.Rewriting.rule l.rewriting) (straight_block (drop l.each-index l.body)))
    ≡ chain (straight_block l.fn.code.items)
    (rewritten_all (g.R.Rewriting.rule l.fn.rewriting) (straight_block l.fn.body))

-- Each call is for a part of what it is called in.

abbrev pub decreases-rewritten_statement : goal.decreases-rewritten_statement
decreases-rewritten_statement g l = 3 * statement_nodes (straight_tree l.statement.now)

abbrev pub decreases-push_all : goal.decreases-push_all
decreases-push_all g l = 3 * block_nodes (straight_block l.body.now) + 1

abbrev pub decreases-block : goal.decreases-block
decreases-block g l = 3 * block_nodes (straight_block l.body.now) + 2
