-- Straight code that may stand in the place of other: what a pass over straight code promises.
use Rattle.std.specs.Prelude.{◌≡◌, List}
use Rattle.branch_removal.specs.Below.{AreFine, AreWithin, Arg}
use Rattle.branch_removal.specs.Kept.{IsStraight}
use Rattle.branch_removal.specs.Straight.{StraightProgram}
use Rattle.branch_removal.specs.StraightMeaning.{outcome_of, path_of}

pub record IsReplaced (before after : StraightProgram) : Type 0 where
  -- what stays as it was
  pub profile : after.profile ≡ before.profile
  pub parameters : after.parameters ≡ before.parameters
  pub returned : after.returned ≡ before.returned
  pub nodes : after.nodes ≡ before.nodes
  pub work : after.work ≡ before.work
  pub iterations : after.iterations ≡ before.iterations
  -- it is well typed, and the limits on size are kept
  pub straight : IsStraight after
  -- the outcome is what it was
  pub outcome : (args : List Arg) → AreWithin before.parameters args → outcome_of after args ≡ outcome_of before args
  -- where no fault was met, and no loop made more iterations than are counted, it is so still
  pub fine : (args : List Arg) → AreWithin before.parameters args → AreFine before.iterations (path_of before args)
      → AreFine after.iterations (path_of after args)
