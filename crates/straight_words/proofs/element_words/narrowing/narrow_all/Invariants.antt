use Rattle.std.proofs.Common.{◌≡◌, map, drop}
use Rattle.straight_words.specs.Below.{term_tree}
use Rattle.straight_words.specs.element_words.private.Narrowing.{all_narrowed}
use Rattle.straight_words.proofs.element_words.narrowing.narrow_all.Given as goal

-- the uses that are left leave what all leave
abbrev pub invariant-loop-term : goal.invariant-loop-term
invariant-loop-term l = all_narrowed l.parts.arrays.items (map term_tree (drop l.term-index l.terms))
    ≡ all_narrowed l.fn.parts.arrays.items (map term_tree l.fn.terms)
