use Rattle.std.proofs.Common.{◌≡◌, ◌++◌, drop}
use Rattle.std.specs.String.{string_bytes}
use Rattle.functions.specs.function_text.AssemblerText.{kept_lines}
use Rattle.functions.proofs.function_text.lines.push_kept_lines.Given as goal

-- the text so far, and the lines of what is left, are all
abbrev pub invariant-loop-instruction : goal.invariant-loop-instruction
invariant-loop-instruction l =
    string_bytes l.text ++ kept_lines l.image (drop l.instruction-index l.code)
    ≡ string_bytes l.fn.text ++ kept_lines l.fn.image l.fn.code
