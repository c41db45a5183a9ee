use Rattle.std.proofs.Common.{◌≡◌, ◌≤◌, ◌+◌, ◌-◌, ◌^◌, drop}
use Rattle.branch_removal.specs.Below.{declared_words}
use Rattle.branch_removal.specs.private.Counts.{counted}
use Rattle.branch_removal.proofs.sizes.all_words_taken.Given as goal

-- the sum is a count, and with what the variables left take it is the count of all
abbrev pub invariant-loop-variable : goal.invariant-loop-variable
invariant-loop-variable l =
    (l.sum ≤ 2 ^ 64 - 1)
    × (counted (l.sum + declared_words (drop l.variable-index l.declared)) ≡ counted (declared_words l.declared))
