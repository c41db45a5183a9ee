use Rattle.std.proofs.Common.{◌≡◌, ◌-◌}
use Rattle.straight_words.specs.live_words.private.Choice.{merged}
use Rattle.straight_words.proofs.live_words.choice.merge.Given as goal

-- with those that are left, all are noted
abbrev pub invariant-loop-other : goal.invariant-loop-other
invariant-loop-other l =
    merged l.conflicts.items l.width l.variable l.word (l.width - l.other) l.other
    ≡ merged l.fn.conflicts.items l.width l.variable l.word l.width 0
