-- Violations in their order.
use Rattle.std.specs.Prelude.{List}
use Rattle.std.specs.List.Sorted.{IsPermutation, IsSortedBy, IsStableBy}
use Rattle.language.specs.declared.typing.Violation.{Violation}
use Rattle.language.specs.Sooner.{comes_before}

-- the same ones, by their places and, at one place, by their rules; those of one rule at one place stand as they came
pub record AreInOrder (all ordered : List Violation) : Type 0 where
  pub same : IsPermutation all ordered
  pub ascend : IsSortedBy comes_before ordered
  pub stable : IsStableBy comes_before all ordered
