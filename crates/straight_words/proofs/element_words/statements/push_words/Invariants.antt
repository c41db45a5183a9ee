use Rattle.std.proofs.Common.{◌≡◌, ◌+◌, ◌-◌, map, drop}
use Rattle.straight_words.specs.Below.{chain, straight_block, term_tree}
use Rattle.straight_words.specs.element_words.private.Splitting.{given_words, split}
use Rattle.straight_words.proofs.element_words.statements.push_words.Given as goal

-- the words from this one on are left, for the values from this one on
abbrev pub invariant-loop-k : goal.invariant-loop-k
invariant-loop-k l =
    chain (straight_block l.code.items)
    (given_words (l.part.base + l.k) (l.part.size - l.k) l.part.word.kind
    (map (split l.parts.arrays.items) (map term_tree (drop l.k l.values))))
    ≡ chain (straight_block l.fn.code.items)
    (given_words l.part.base l.part.size l.part.word.kind
    (map (split l.parts.arrays.items) (map term_tree l.values)))
