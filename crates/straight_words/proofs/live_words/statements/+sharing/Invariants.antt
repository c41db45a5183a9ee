use Rattle.std.proofs.Common.{◌≡◌, ◌+◌, ◌-◌, ◌*◌, drop, length}
use Rattle.straight_words.specs.Below.{block_nodes, nothing, statement_nodes, straight_block, straight_tree}
use Rattle.straight_words.specs.live_words.private.Held.{held_by}
use Rattle.straight_words.specs.live_words.private.Sharing.{before_all, onto, shared_all}
use Rattle.straight_words.proofs.live_words.statements.+sharing.Given as goal

-- the statements that are done are the last ones
abbrev pub invariant-statements-loop-behind : goal.invariant-statements-loop-behind
invariant-statements-loop-behind l =
    let last = straight_block (drop (length l.body - l.behind) l.body) in
    record {
      code : onto (straight_block l.backwards.items) nothing ≡ shared_all l.table (held_by l.fn.live) last;
      live : held_by l.live ≡ before_all l.table (held_by l.fn.live) last;
    }

-- Each call is for a part of what it is called in.

abbrev pub decreases-statement : goal.decreases-statement
decreases-statement l = 4 * statement_nodes (straight_tree l.statement.now)

abbrev pub decreases-statements : goal.decreases-statements
decreases-statements l = 4 * block_nodes (straight_block l.body.now) + 1

abbrev pub decreases-branch : goal.decreases-branch
decreases-branch l = 4 * (block_nodes (straight_block l.accepted.now) + block_nodes (straight_block l.otherwise.now))
    + 3

abbrev pub decreases-repeat : goal.decreases-repeat
decreases-repeat l = 4 * block_nodes (straight_block l.body.now) + 3
