use Rattle.std.proofs.Common.{◌≡◌, drop}
use Rattle.straight_words.specs.live_words.private.Held.{noted_all}
use Rattle.straight_words.proofs.live_words.live.note_all.Given as goal

-- with those that are left, the conflicts are all
abbrev pub invariant-loop-holder : goal.invariant-loop-holder
invariant-loop-holder l =
    noted_all l.conflicts.items l.width l.word (drop l.holder-index l.holders)
    ≡ noted_all l.fn.conflicts.items l.width l.word l.holders
