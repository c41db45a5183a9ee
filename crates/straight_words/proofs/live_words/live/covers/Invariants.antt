use Rattle.std.proofs.Common.{◌≡◌, drop}
use Rattle.straight_words.specs.live_words.private.Held.{covers}
use Rattle.straight_words.proofs.live_words.live.covers.Given as goal

-- those so far are held here
abbrev pub invariant-loop-variable : goal.invariant-loop-variable
invariant-loop-variable l =
    covers l.these l.variable (drop l.variable l.holders) ≡ covers l.these 0 l.holders
