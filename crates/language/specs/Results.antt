-- What a program gives, as values.
use Rattle.std.specs.Prelude.{ℕ, List, Option}

-- the word that it returns, where it has a result, and the final words of each `mut` array, in parameter order
pub record Results : Type 0 where
  pub returned : Option ℕ
  pub arrays : List (List ℕ)
