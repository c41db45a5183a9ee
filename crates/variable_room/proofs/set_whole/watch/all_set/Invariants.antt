use Rattle.std.proofs.Common.{◌≡◌, drop}
use Rattle.variable_room.specs.set_whole.Watching.{all_set}
use Rattle.variable_room.proofs.set_whole.watch.all_set.Given as goal

-- those that are left decide
abbrev pub invariant-loop-flag : goal.invariant-loop-flag
invariant-loop-flag l = all_set (drop l.flag-index l.flags) ≡ all_set l.flags
