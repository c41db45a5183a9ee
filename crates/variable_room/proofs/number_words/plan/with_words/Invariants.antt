use Rattle.std.proofs.Common.{◌≡◌, ◌++◌, map, take}
use Rattle.variable_room.specs.number_words.private.Plan.{variable_of}
use Rattle.variable_room.proofs.number_words.plan.with_words.Given as goal

-- the words before this one are there
abbrev pub invariant-loop-word : goal.invariant-loop-word
invariant-loop-word l = l.declared.items ≡ l.variables ++ map variable_of (take l.word-index l.words)
