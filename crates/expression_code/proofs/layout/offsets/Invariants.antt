use Rattle.std.proofs.Common.{◌≡◌, ◌≤◌, ◌+◌, ◌*◌, ◌++◌, drop}
use Rattle.expression_code.proofs.Below.{offsets_from, declared_words}
use Rattle.expression_code.proofs.layout.offsets.Given as goal

abbrev pub invariant-loop-variable : goal.invariant-loop-variable
invariant-loop-variable l = record {
  low : l.low + 4 * declared_words (drop l.variable-index l.declared) ≤ 65536;
  rest : l.offsets.items ++ offsets_from l.low (drop l.variable-index l.declared) ≡ offsets_from 0 l.declared;
}
