use Rattle.std.proofs.Common.{◌≡◌, ◌<◌, ◌^◌, ◌++◌, All, map, drop}
use Rattle.codegen.specs.Below.{word_of}
use Rattle.codegen.proofs.generator.words.Given as goal

abbrev pub invariant-loop-instruction : goal.invariant-loop-instruction
invariant-loop-instruction l = record {
  made : l.words.items ++ map word_of (drop l.instruction-index l.code) ≡ map word_of l.code;
  fit : All (λ word. word < 2 ^ 32) l.words.items;
}
