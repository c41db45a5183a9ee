-- A body with what is counted for it.
use Rattle.std.specs.Prelude.{ℕ, List}
use Rattle.intervals.specs.Below.{FlatProgram}

pub record RangedProgram : Type 0 where
  pub flat : FlatProgram
  -- how many iterations the loop of each counter makes at most, at the counter's number; 0 at all other numbers
  pub iterations : List ℕ
  -- how many nodes a run evaluates at most
  pub work : ℕ
