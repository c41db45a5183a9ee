use Rattle.std.proofs.Common.{◌≡◌, ◌++◌, drop, map}
use Rattle.std.specs.String.{string_bytes}
use Rattle.functions.specs.function_text.Functions.{named}
use Rattle.functions.specs.function_text.HeaderText.{later_text}
use Rattle.functions.proofs.function_text.header.push_later.Given as goal

abbrev pub invariant-loop-parameter : goal.invariant-loop-parameter
invariant-loop-parameter l =
    string_bytes l.text ++ later_text (map named (drop l.parameter-index l.later)) ≡ string_bytes l.fn.text
    ++ later_text (map named l.fn.later)
