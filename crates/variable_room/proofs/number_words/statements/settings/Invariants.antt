use Rattle.std.proofs.Common.{◌≡◌, drop}
use Rattle.variable_room.specs.Below.{chain, straight_block}
use Rattle.variable_room.specs.number_words.private.Wording.{settings}
use Rattle.variable_room.proofs.number_words.statements.settings.Given as goal

-- the words from this one on are left
abbrev pub invariant-loop-word : goal.invariant-loop-word
invariant-loop-word l =
    chain (straight_block l.code.items) (settings (drop l.word-index l.words)) ≡ settings l.words
