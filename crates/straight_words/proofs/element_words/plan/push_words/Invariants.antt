use Rattle.std.proofs.Common.{◌≡◌, ◌++◌, true, replicate}
use Rattle.straight_words.specs.Below.{word_as}
use Rattle.straight_words.proofs.element_words.plan.push_words.Given as goal

-- so many words are there
abbrev pub invariant-loop-word : goal.invariant-loop-word
invariant-loop-word l = l.declared.items ≡ l.fn.declared.items ++ replicate l._word (word_as l.part.word true)
