use Rattle.std.proofs.Common.{◌≡◌, map, take}
use Rattle.straight_words.specs.Below.{term_tree}
use Rattle.straight_words.specs.live_words.private.Terms.{renamed}
use Rattle.straight_words.proofs.live_words.terms.all_renamed.Given as goal

-- the expressions before this one are done
abbrev pub invariant-loop-term : goal.invariant-loop-term
invariant-loop-term l = map term_tree l.copies.items
    ≡ map (renamed l.table) (map term_tree (take l.term-index l.terms))
