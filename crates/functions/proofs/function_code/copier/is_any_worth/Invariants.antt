use Rattle.std.proofs.Common.{◌≡◌, drop}
use Rattle.functions.specs.Below.{is_any_worth}
use Rattle.functions.proofs.function_code.copier.is_any_worth.Given as goal

-- those that are left decide
abbrev pub invariant-loop-slot : goal.invariant-loop-slot
invariant-loop-slot l = is_any_worth (drop l.slot-index l.slots) ≡ is_any_worth l.slots
