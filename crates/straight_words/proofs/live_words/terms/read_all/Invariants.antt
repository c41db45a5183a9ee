use Rattle.std.proofs.Common.{◌≡◌, drop, map}
use Rattle.straight_words.specs.Below.{term_tree}
use Rattle.straight_words.specs.live_words.private.Held.{held_by}
use Rattle.straight_words.specs.live_words.private.Terms.{reading_all}
use Rattle.straight_words.proofs.live_words.terms.read_all.Given as goal

-- with what is left to read, all is read
abbrev pub invariant-loop-term : goal.invariant-loop-term
invariant-loop-term l =
    reading_all l.table l.done (held_by l.live) (map term_tree (drop l.term-index l.terms))
    ≡ reading_all l.table l.done (held_by l.fn.live) (map term_tree l.terms)
