use Rattle.std.proofs.Common.{◌≡◌, length}
use Rattle.straight_words.specs.Below.{chain, nothing, straight_block}
use Rattle.straight_words.specs.live_words.private.Sharing.{onto}
use Rattle.straight_words.proofs.live_words.statements.in_order.Given as goal

-- the statements so far and those that are left are all
abbrev pub invariant-loop-statement : goal.invariant-loop-statement
invariant-loop-statement l =
    chain (straight_block l.code.items) (onto (straight_block l.backwards.items) nothing)
    ≡ onto (straight_block l.fn.backwards.items) nothing

abbrev pub decreases-loop-statement : goal.decreases-loop-statement
decreases-loop-statement l = length l.backwards.items
