use Rattle.std.proofs.Common.{◌≡◌, drop}
use Rattle.straight_words.specs.live_words.private.Choice.{first_shared, words_of}
use Rattle.straight_words.proofs.live_words.choice.WordCandidates.first_shared.Given as goal

-- none of those so far is it
abbrev pub invariant-loop-variable : goal.invariant-loop-variable
invariant-loop-variable l =
    first_shared (words_of l.self) l.conflicts l.word (drop l.variable-index l.variables)
    ≡ first_shared (words_of l.self) l.conflicts l.word l.variables
