use Rattle.std.proofs.Common.{◌≡◌, drop}
use Rattle.straight_words.specs.live_words.private.Whole.{keep_counts}
use Rattle.straight_words.proofs.live_words.sharing.keep_counts.Given as goal

-- those so far keep them
abbrev pub invariant-loop-word : goal.invariant-loop-word
invariant-loop-word l =
    keep_counts l.iterations l.word (drop l.word l.table) ≡ keep_counts l.iterations 0 l.table
