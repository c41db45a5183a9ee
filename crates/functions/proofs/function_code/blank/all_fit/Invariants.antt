use Rattle.std.proofs.Common.{◌≡◌, drop}
use Rattle.functions.specs.Below.{all_fit}
use Rattle.functions.proofs.function_code.blank.all_fit.Given as goal

-- those that are left decide
abbrev pub invariant-loop-offset : goal.invariant-loop-offset
invariant-loop-offset l = all_fit l.room (drop l.offset-index l.offsets) ≡ all_fit l.room l.offsets
