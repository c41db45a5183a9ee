use Rattle.std.proofs.Common.{◌≡◌, ◌+◌, ◌-◌, ◌*◌, Some, drop}
use Rattle.optimisation.specs.Below.{block_nodes, chain, statement_nodes, straight_block, straight_tree}
use Rattle.optimisation.specs.iteration_groups.private.Grouping.{copies, grouped_all, shift_to}
use Rattle.optimisation.proofs.iteration_groups.statements.+grouping.Given as goal

-- the code so far and that of what is left are the code of all statements
abbrev pub invariant-push_all-loop-each : goal.invariant-push_all-loop-each
invariant-push_all-loop-each l =
    chain (straight_block l.code.items)
    (grouped_all l.copying.shift l.copying.base (straight_block (drop l.each-index l.body)))
    ≡ chain (straight_block l.fn.code.items)
    (grouped_all l.copying.shift l.copying.base (straight_block l.fn.body))

-- the copies from this offset on are left
abbrev pub invariant-push_copies-loop-offset : goal.invariant-push_copies-loop-offset
invariant-push_copies-loop-offset l =
    chain (straight_block l.code.items)
    (copies
    (λ offset. grouped_all (Some (shift_to l.each.counter l.each.base offset)) l.each.base (straight_block l.body))
    (l.count - l.offset) l.offset)
    ≡ chain (straight_block l.fn.code.items)
    (copies
    (λ offset. grouped_all (Some (shift_to l.each.counter l.each.base offset)) l.each.base (straight_block l.body))
    l.count 0)

-- Each call is for a part of what it is called in.

abbrev pub decreases-statement : goal.decreases-statement
decreases-statement l = 7 * statement_nodes (straight_tree l.statement.now)

abbrev pub decreases-push_loop : goal.decreases-push_loop
decreases-push_loop l = 7 * block_nodes (straight_block l.body.now) + 6

abbrev pub decreases-push_groups : goal.decreases-push_groups
decreases-push_groups l = 7 * block_nodes (straight_block l.body.now) + 5

abbrev pub decreases-group_code : goal.decreases-group_code
decreases-group_code l = 7 * block_nodes (straight_block l.body.now) + 4

abbrev pub decreases-push_copies : goal.decreases-push_copies
decreases-push_copies l = 7 * block_nodes (straight_block l.body.now) + 3

abbrev pub decreases-block : goal.decreases-block
decreases-block l = 7 * block_nodes (straight_block l.body.now) + 2

abbrev pub decreases-push_all : goal.decreases-push_all
decreases-push_all l = 7 * block_nodes (straight_block l.body.now) + 1
