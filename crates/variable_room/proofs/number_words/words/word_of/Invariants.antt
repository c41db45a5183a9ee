use Rattle.std.proofs.Common.{◌≡◌, drop}
use Rattle.variable_room.specs.number_words.private.Wording.{word_of}
use Rattle.variable_room.proofs.number_words.words.word_of.Given as goal

-- none of those so far is it
abbrev pub invariant-loop-each : goal.invariant-loop-each
invariant-loop-each l = word_of l.number (drop l.each-index l.words) ≡ word_of l.number l.words
