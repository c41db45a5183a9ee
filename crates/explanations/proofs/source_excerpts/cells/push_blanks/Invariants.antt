-- What is put at the end so far, and what the bytes that are left give, are all.
use Rattle.std.proofs.Common.{◌≡◌, ◌++◌, drop}
use Rattle.std.specs.String.{string_bytes}
use Rattle.explanations.specs.source_excerpts.Excerpt.{blanks}
use Rattle.explanations.proofs.source_excerpts.cells.push_blanks.Given as goal

abbrev pub invariant-loop-byte : goal.invariant-loop-byte
invariant-loop-byte l = string_bytes l.text ++ blanks (drop l.byte-index l.bytes) ≡ string_bytes l.fn.text
    ++ blanks l.bytes
