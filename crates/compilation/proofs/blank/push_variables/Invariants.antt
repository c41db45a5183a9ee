use Rattle.std.proofs.Common.{◌≡◌, ◌+◌, ◌-◌, ◌*◌, ◌++◌, drop}
use Rattle.compilation.specs.Blank.{blank_from}
use Rattle.inline.specs.FlatSize.{declared_words}
use Rattle.compilation.proofs.blank.push_variables.Given as goal

-- with those of the variables that are left, all are put there
abbrev pub invariant-loop-number : goal.invariant-loop-number
invariant-loop-number l =
    (l.offsets.items ++ blank_from (l.parameters - l.number) l.low (drop l.number l.declared)
    ≡ l.fn.offsets.items ++ blank_from l.parameters 0 l.declared)
    × (l.low + 4 * declared_words (drop l.number l.declared) ≡ 4 * declared_words l.declared)
