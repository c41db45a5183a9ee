use Rattle.std.proofs.Common.{◌≡◌, ◌++◌, None, map, take, drop, replicate}
use Rattle.straight_words.specs.element_words.private.Parts.{candidate}
use Rattle.straight_words.proofs.element_words.parts.SplitArrays.candidates.Given as goal

-- the variables before this one are looked at
abbrev pub invariant-loop-variable : goal.invariant-loop-variable
invariant-loop-variable l = l.arrays.items
    ≡ replicate l.parameters None ++ map candidate (take l.variable-index (drop l.parameters l.declared))
