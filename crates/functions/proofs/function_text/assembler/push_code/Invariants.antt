use Rattle.std.proofs.Common.{◌≡◌, ◌++◌, drop}
use Rattle.std.specs.String.{string_bytes}
use Rattle.functions.specs.function_text.AssemblerText.{behind, code_lines}
use Rattle.functions.proofs.function_text.assembler.push_code.Given as goal

-- the text so far, and the lines of what is left, are all
abbrev pub invariant-loop-instruction : goal.invariant-loop-instruction
invariant-loop-instruction l =
    (string_bytes l.text ++ code_lines l.notation l.name l.image l.section l.at (drop l.instruction-index l.code)
    ≡ string_bytes l.fn.text ++ code_lines l.fn.notation l.fn.name l.fn.image l.fn.section l.fn.start l.fn.code)
    × (behind l.at (drop l.instruction-index l.code) ≡ behind l.fn.start l.fn.code)
