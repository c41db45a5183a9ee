use Rattle.std.proofs.Common.{◌≡◌, ◌++◌, drop}
use Rattle.expression_code.specs.Layout.{slotted_from}
use Rattle.expression_code.proofs.layout.slotted.Given as goal

-- the variables so far and those that are left are all variables
abbrev pub invariant-loop-number : goal.invariant-loop-number
invariant-loop-number l = record {
  made : l.all.items ++ slotted_from l.fn.given l.fn.homes l.number (drop l.number l.declared)
      ≡ slotted_from l.fn.given l.fn.homes 0 l.declared;
}
