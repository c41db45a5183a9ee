use Rattle.std.proofs.Common.{◌≡◌, ◌≤◌, ◌+◌, ◌++◌, drop, length}
use Rattle.functions.specs.Below.{array_sections}
use Rattle.functions.proofs.function_code.sections.push_arrays.Given as goal

abbrev pub invariant-loop-slot : goal.invariant-loop-slot
invariant-loop-slot l = record {
  made : l.sections.items ++ array_sections l.index (drop l.slot-index l.slots) ≡ l.fn.sections.items
      ++ array_sections 0 l.fn.slots;
  count : l.index + length (drop l.slot-index l.slots) ≤ 8192;
}
