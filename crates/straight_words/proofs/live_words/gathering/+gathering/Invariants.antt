use Rattle.std.proofs.Common.{◌≡◌, ◌+◌, ◌*◌, drop}
use Rattle.straight_words.specs.Below.{block_nodes, statement_nodes, straight_block, straight_tree}
use Rattle.straight_words.specs.live_words.private.Gathering.{gathered_all}
use Rattle.straight_words.specs.live_words.private.Held.{held_by}
use Rattle.straight_words.proofs.live_words.gathering.+gathering.Given as goal

-- with what the statements read that are left, all is live that they read
abbrev pub invariant-gather_all-loop-statement : goal.invariant-gather_all-loop-statement
invariant-gather_all-loop-statement l =
    gathered_all l.table l.done.items (held_by l.live) (straight_block (drop l.statement-index l.body))
    ≡ gathered_all l.table l.fn.done.items (held_by l.fn.live) (straight_block l.body)

-- Each call is for a part of what it is called in.

abbrev pub decreases-gather : goal.decreases-gather
decreases-gather l = 2 * statement_nodes (straight_tree l.statement.now)

abbrev pub decreases-gather_all : goal.decreases-gather_all
decreases-gather_all l = 2 * block_nodes (straight_block l.body.now) + 1
