use Rattle.std.proofs.Common.{◌≡◌, ◌+◌, ◌*◌, drop}
use Rattle.optimisation.specs.Below.{block_nodes, statement_nodes, straight_block, straight_tree}
use Rattle.optimisation.specs.constants.private.Choice.{choice_of, chosen_all}
use Rattle.optimisation.proofs.constants.choice.Choice.+choice.Given as goal

-- what is left to choose leaves what choosing all does
abbrev pub invariant-choose_all-loop-statement : goal.invariant-choose_all-loop-statement
invariant-choose_all-loop-statement l =
    chosen_all (choice_of l.self) (straight_block (drop l.statement-index l.body))
    ≡ chosen_all (choice_of l.fn.self) (straight_block l.fn.body)

-- Each call is for a part of what it is called in.

abbrev pub decreases-choose : goal.decreases-choose
decreases-choose l = 2 * statement_nodes (straight_tree l.statement.now)

abbrev pub decreases-choose_all : goal.decreases-choose_all
decreases-choose_all l = 2 * block_nodes (straight_block l.body.now) + 1
