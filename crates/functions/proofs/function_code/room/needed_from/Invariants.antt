use Rattle.std.specs.Prelude.{max}
use Rattle.std.proofs.Common.{◌≡◌, ◌≤◌, ◌+◌, drop, length}
use Rattle.functions.specs.Below.{needed_from}
use Rattle.functions.proofs.function_code.room.needed_from.Given as goal

-- those so far, and those of the arguments that are left, are all of them
abbrev pub invariant-loop-slot : goal.invariant-loop-slot
invariant-loop-slot l = record {
  all : max l.needed (needed_from l.index (drop l.slot-index l.slots)) ≡ needed_from 0 l.fn.slots;
  few : l.needed ≤ 8;
  count : l.index + length (drop l.slot-index l.slots) ≤ 8192;
}
