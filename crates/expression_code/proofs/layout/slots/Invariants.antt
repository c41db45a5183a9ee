use Rattle.std.proofs.Common.{◌≡◌, ◌≤◌, ◌+◌, ◌*◌, ◌++◌, drop, map}
use Rattle.expression_code.proofs.Below.{slots_from, declaration_of, declared_words}
use Rattle.expression_code.proofs.layout.slots.Given as goal

abbrev pub invariant-loop-parameter : goal.invariant-loop-parameter
invariant-loop-parameter l = record {
  low : l.low + 4 * declared_words (map declaration_of (drop l.parameter-index l.parameters)) ≤ 65536;
  rest : l.slots.items ++ slots_from l.low (drop l.parameter-index l.parameters) ≡ slots_from 0 l.parameters;
}
