use Rattle.std.proofs.Common.{◌≡◌, ◌+◌, ◌*◌, drop}
use Rattle.variable_room.specs.Below.{block_nodes, statement_nodes, straight_block, straight_tree}
use Rattle.variable_room.specs.needed_variables.private.Named.{named_by_all}
use Rattle.variable_room.proofs.needed_variables.+naming.Given as goal

-- with those in the statements that are left, all are named
abbrev pub invariant-note_by_all-loop-statement : goal.invariant-note_by_all-loop-statement
invariant-note_by_all-loop-statement l =
    named_by_all (straight_block (drop l.statement-index l.statements)) l.named
    ≡ named_by_all (straight_block l.fn.statements) l.fn.named

-- Each call is for a part of what it is called in.

abbrev pub decreases-note_by : goal.decreases-note_by
decreases-note_by l = 2 * statement_nodes (straight_tree l.statement.now)

abbrev pub decreases-note_by_all : goal.decreases-note_by_all
decreases-note_by_all l = 2 * block_nodes (straight_block l.statements.now) + 1
