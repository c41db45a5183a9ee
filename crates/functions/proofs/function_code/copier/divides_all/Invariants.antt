use Rattle.std.proofs.Common.{◌≡◌, drop}
use Rattle.functions.specs.Below.{divides_all, times}
use Rattle.functions.proofs.function_code.copier.divides_all.Given as goal

-- those that are left decide
abbrev pub invariant-loop-slot : goal.invariant-loop-slot
invariant-loop-slot l =
    divides_all (times l.fn.round) (drop l.slot-index l.slots) ≡ divides_all (times l.fn.round) l.fn.slots
