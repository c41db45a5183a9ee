use Rattle.std.proofs.Common.{◌≡◌, drop}
use Rattle.functions.specs.Below.{is_written}
use Rattle.functions.proofs.function_code.kept.is_written.Given as goal

-- what the words so far do not write is written by those that are left, or not at all
abbrev pub invariant-loop-word : goal.invariant-loop-word
invariant-loop-word l = is_written (drop l.word-index l.words) l.fn.register ≡ is_written l.fn.words l.fn.register
