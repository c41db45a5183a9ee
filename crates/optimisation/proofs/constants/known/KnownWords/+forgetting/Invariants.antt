use Rattle.std.proofs.Common.{◌≡◌, ◌+◌, ◌*◌, drop}
use Rattle.optimisation.specs.Below.{block_nodes, statement_nodes, straight_block, straight_tree}
use Rattle.optimisation.specs.constants.private.Known.{forgotten_all, words_of}
use Rattle.optimisation.proofs.constants.known.KnownWords.+forgetting.Given as goal

-- what is left to forget leaves what forgetting all does
abbrev pub invariant-forget_all-loop-statement : goal.invariant-forget_all-loop-statement
invariant-forget_all-loop-statement l =
    forgotten_all (words_of l.self) (straight_block (drop l.statement-index l.body))
    ≡ forgotten_all (words_of l.fn.self) (straight_block l.fn.body)

-- Each call is for a part of what it is called in.

abbrev pub decreases-forget : goal.decreases-forget
decreases-forget l = 2 * statement_nodes (straight_tree l.statement.now)

abbrev pub decreases-forget_all : goal.decreases-forget_all
decreases-forget_all l = 2 * block_nodes (straight_block l.body.now) + 1
