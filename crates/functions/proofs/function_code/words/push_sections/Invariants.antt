use Rattle.std.proofs.Common.{◌≡◌, ◌%◌, ◌^◌, ◌++◌, length, map, drop}
use Rattle.functions.specs.Below.{code_of, word_of}
use Rattle.functions.proofs.function_code.words.push_sections.Given as goal

-- the words so far and those of the sections that are left are all, and so many instructions are left
abbrev pub invariant-loop-section : goal.invariant-loop-section
invariant-loop-section l = record {
  words : l.words.items
      ++ map word_of (code_of l.fn.image l.fn.around.pace l.fn.behind (drop l.section-index l.sections))
      ≡ l.fn.words.items ++ map word_of (code_of l.fn.image l.fn.around.pace l.fn.behind l.fn.sections);
  left : l.left ≡ length (code_of l.fn.image l.fn.around.pace 0 (drop l.section-index l.sections)) % 2 ^ 32;
}
