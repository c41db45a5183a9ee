use Rattle.std.proofs.Common.{◌≡◌, ◌+◌, ◌%◌, ◌^◌, length, drop}
use Rattle.functions.specs.Below.{code_of}
use Rattle.functions.proofs.function_code.sections.sections_length.Given as goal

-- those so far and those of the sections that are left are all
abbrev pub invariant-loop-section : goal.invariant-loop-section
invariant-loop-section l =
    (l.count + length (code_of l.fn.image l.fn.around.pace 0 (drop l.section-index l.sections))) % 2 ^ 32
    ≡ length (code_of l.fn.image l.fn.around.pace 0 l.fn.sections) % 2 ^ 32
