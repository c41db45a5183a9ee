use Rattle.std.proofs.Common.{◌≡◌, ◌++◌, drop}
use Rattle.variable_room.specs.set_whole.Whole.{set_whole_from, set_whole_of}
use Rattle.variable_room.proofs.set_whole.arrays_set_whole.Given as goal

-- what was found so far, and what is left to find
abbrev pub invariant-loop-number : goal.invariant-loop-number
invariant-loop-number l =
    l.whole.items ++ set_whole_from l.straight l.number (drop l.number l.parameters) ≡ set_whole_of l.straight
