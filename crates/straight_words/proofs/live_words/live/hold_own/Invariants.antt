use Rattle.std.proofs.Common.{◌≡◌, drop}
use Rattle.straight_words.specs.live_words.private.Held.{hold_own}
use Rattle.straight_words.proofs.live_words.live.hold_own.Given as goal

-- those so far hold their own
abbrev pub invariant-loop-variable : goal.invariant-loop-variable
invariant-loop-variable l = hold_own l.variable (drop l.variable l.holders) ≡ hold_own 0 l.holders
