use Rattle.std.proofs.Common.{◌≡◌, drop}
use Rattle.straight_words.specs.live_words.private.Held.{held_by}
use Rattle.straight_words.specs.live_words.private.Whole.{with_results}
use Rattle.straight_words.proofs.live_words.sharing.keep_results.Given as goal

-- with those that are left, all are live
abbrev pub invariant-loop-number : goal.invariant-loop-number
invariant-loop-number l =
    with_results l.table l.number (drop l.number l.parameters) (held_by l.live)
    ≡ with_results l.table 0 l.parameters (held_by l.fn.live)
