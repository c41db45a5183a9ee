use Rattle.std.proofs.Common.{◌≡◌, drop}
use Rattle.straight_words.specs.live_words.private.Held.{held_by, joined}
use Rattle.straight_words.proofs.live_words.live.Live.join.Given as goal

-- with those that are left, all are here
abbrev pub invariant-loop-variable : goal.invariant-loop-variable
invariant-loop-variable l =
    joined (held_by l.self) l.variable (drop l.variable l.holders) ≡ joined (held_by l.fn.self) 0 l.holders
