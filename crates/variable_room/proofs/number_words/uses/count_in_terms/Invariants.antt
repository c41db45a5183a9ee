use Rattle.std.proofs.Common.{◌≡◌, drop, map}
use Rattle.variable_room.specs.Below.{term_tree}
use Rattle.variable_room.specs.number_words.private.Uses.{counted_in_terms}
use Rattle.variable_room.proofs.number_words.uses.count_in_terms.Given as goal

-- with those in the expressions that are left, all are counted
abbrev pub invariant-loop-term : goal.invariant-loop-term
invariant-loop-term l =
    counted_in_terms l.weight (map term_tree (drop l.term-index l.terms)) l.uses.items
    ≡ counted_in_terms l.weight (map term_tree l.terms) l.fn.uses.items
