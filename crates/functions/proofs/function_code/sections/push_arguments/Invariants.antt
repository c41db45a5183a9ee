use Rattle.std.proofs.Common.{◌≡◌, ◌≤◌, ◌+◌, ◌++◌, drop, length}
use Rattle.functions.specs.Below.{argument_sections}
use Rattle.functions.proofs.function_code.sections.push_arguments.Given as goal

abbrev pub invariant-loop-slot : goal.invariant-loop-slot
invariant-loop-slot l = record {
  made : l.sections.items ++ argument_sections l.spared l.index (drop l.slot-index l.slots) ≡ l.fn.sections.items
      ++ argument_sections l.spared 0 l.fn.slots;
  count : l.index + length (drop l.slot-index l.slots) ≤ 8192;
}
