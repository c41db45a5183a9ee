use Rattle.std.proofs.Common.{◌≡◌, ◌++◌, map, drop}
use Rattle.functions.specs.Below.{word_of}
use Rattle.functions.proofs.function_code.words.push_words.Given as goal

abbrev pub invariant-loop-instruction : goal.invariant-loop-instruction
invariant-loop-instruction l = l.words.items ++ map word_of (drop l.instruction-index l.code) ≡ l.fn.words.items
    ++ map word_of l.fn.code
