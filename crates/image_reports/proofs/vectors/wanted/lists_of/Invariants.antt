use Rattle.std.proofs.Common.{◌≡◌, ◌++◌, take}
use Rattle.image_reports.specs.vectors.Spelled.{returned_list}
use Rattle.image_reports.proofs.vectors.wanted.lists_of.Given as goal

-- what is returned, and the arrays so far
abbrev pub invariant-loop-numbers : goal.invariant-loop-numbers
invariant-loop-numbers l = l.lists.items ≡ returned_list l.outcome.returned ++ take l.numbers-index l.outcome.arrays
