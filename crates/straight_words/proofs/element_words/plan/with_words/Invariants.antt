use Rattle.std.proofs.Common.{◌≡◌, ◌++◌, drop}
use Rattle.straight_words.specs.element_words.private.Parts.{all_words}
use Rattle.straight_words.proofs.element_words.plan.with_words.Given as goal

-- the words from this array's on are left
abbrev pub invariant-loop-part : goal.invariant-loop-part
invariant-loop-part l = l.declared.items ++ all_words (drop l.part-index l.parts.arrays.items)
    ≡ l.variables ++ all_words l.parts.arrays.items
