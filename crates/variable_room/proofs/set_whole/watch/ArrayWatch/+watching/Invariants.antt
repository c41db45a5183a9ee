use Rattle.std.proofs.Common.{◌≡◌, ◌+◌, ◌-◌, ◌*◌, drop}
use Rattle.variable_room.specs.Below.{block_nodes, statement_nodes, straight_block, straight_tree}
use Rattle.variable_room.specs.set_whole.Watching.{in_iteration, through, watch_of, watched_all}
use Rattle.variable_room.proofs.set_whole.watch.ArrayWatch.+watching.Given as goal

-- the statements that are left make of the elements that were set what all make
abbrev pub invariant-watch_all-loop-statement : goal.invariant-watch_all-loop-statement
invariant-watch_all-loop-statement l =
    watched_all (watch_of l.self) l.flags.items (straight_block (drop l.statement-index l.body))
    ≡ watched_all (watch_of l.self) l.fn.flags.items (straight_block l.body)

-- so do the iterations that are left
abbrev pub invariant-watch_iterations-loop-number : goal.invariant-watch_iterations-loop-number
invariant-watch_iterations-loop-number l =
    through (l.number-end - l.number) l.number
    (λ i next. watched_all (in_iteration (watch_of l.self) l.counter l.fn.range i) next (straight_block l.fn.body))
    l.flags.items
    ≡ through (l.fn.range.high - l.fn.range.low) l.fn.range.low
    (λ i next. watched_all (in_iteration (watch_of l.self) l.counter l.fn.range i) next (straight_block l.fn.body))
    l.fn.flags.items

-- Each call is for a part of what it is called in.

abbrev pub decreases-watch : goal.decreases-watch
decreases-watch l = 3 * statement_nodes (straight_tree l.statement.now)

abbrev pub decreases-watch_all : goal.decreases-watch_all
decreases-watch_all l = 3 * block_nodes (straight_block l.body.now) + 1

abbrev pub decreases-may_run : goal.decreases-may_run
decreases-may_run l = 3 * block_nodes (straight_block l.body.now) + 2

abbrev pub decreases-watch_iterations : goal.decreases-watch_iterations
decreases-watch_iterations l = 3 * block_nodes (straight_block l.body.now) + 2
