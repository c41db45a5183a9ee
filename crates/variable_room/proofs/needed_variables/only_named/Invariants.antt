use Rattle.std.proofs.Common.{◌≡◌, ◌++◌, drop}
use Rattle.variable_room.specs.needed_variables.private.Named.{needed_from}
use Rattle.variable_room.proofs.needed_variables.only_named.Given as goal

-- the variables from this one on are left
abbrev pub invariant-loop-number : goal.invariant-loop-number
invariant-loop-number l =
    l.needed.items ++ needed_from l.named l.number (drop l.number l.declared) ≡ needed_from l.named 0 l.declared
