use Rattle.std.proofs.Common.{◌≡◌, ◌+◌, drop}
use Rattle.straight_words.specs.Below.{declared_words}
use Rattle.straight_words.proofs.element_words.plan.room_beside.Given as goal

-- the variables from this one on are left
abbrev pub invariant-loop-variable : goal.invariant-loop-variable
invariant-loop-variable l = l.taken + declared_words (drop l.variable-index l.declared) ≡ declared_words l.declared
