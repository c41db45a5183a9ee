use Rattle.std.proofs.Common.{◌≡◌, ◌+◌, ◌++◌, drop}
use Rattle.straight_words.specs.element_words.private.Parts.{numbered}
use Rattle.straight_words.proofs.element_words.plan.numbered.Given as goal

-- the arrays from this one on are left
abbrev pub invariant-loop-array : goal.invariant-loop-array
invariant-loop-array l = record {
  within : l.base + l.room ≡ l.first + l.most;
  left : l.arrays.items ++ numbered l.base l.room (drop l.array-index l.parts.arrays.items)
      ≡ numbered l.first l.most l.parts.arrays.items;
}
