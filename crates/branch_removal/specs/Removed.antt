-- What is promised of straight code for a body with branches.
use Rattle.std.specs.Prelude.{◌≡◌, List}
use Rattle.branch_removal.specs.Below.{Agree, AgreeInPublic, AreFine, AreWithin, Arg, outcome_of as outcome_of_flat}
use Rattle.branch_removal.specs.Below.{RangedProgram, seen}
use Rattle.branch_removal.specs.Bounds.{IsBounded}
use Rattle.branch_removal.specs.Straight.{StraightProgram}
use Rattle.branch_removal.specs.StraightMeaning.{outcome_of, path_of}
use Rattle.branch_removal.specs.StraightTyping.{IsTypedStraight}

pub record IsRemoved (ranged : RangedProgram) (straight : StraightProgram) : Type 0 where
  -- what stays as it was
  pub profile : straight.profile ≡ ranged.flat.profile
  pub parameters : straight.parameters ≡ ranged.flat.parameters
  pub returned : straight.returned ≡ ranged.flat.returned
  pub nodes : straight.nodes ≡ ranged.flat.nodes
  pub work : straight.work ≡ ranged.work
  -- how many iterations each loop makes at most
  pub iterations : straight.iterations ≡ ranged.iterations
  -- the limits on size are kept
  pub bounded : IsBounded straight
  -- it is well typed: what branches, bounds, indices and divisions go by is public, and so is what the observer sees
  -- multiplied
  pub typed : IsTypedStraight straight
  -- the outcome is that of the body with real branches
  pub outcome : (args : List Arg) → AreWithin straight.parameters args
      → outcome_of straight args ≡ outcome_of_flat ranged.flat args
  -- no fault is met, and no loop makes more iterations than are counted
  pub fine : (args : List Arg) → AreWithin straight.parameters args → AreFine straight.iterations
      (path_of straight args)
  -- on arguments that are equal where they are public, what the observer sees of the path is one and the same
  pub paths : (one other : List Arg) → Agree straight.parameters one other
      → seen straight.profile (path_of straight one) ≡ seen straight.profile (path_of straight other)
  -- and so are the return and the `mut` arrays, where they are public
  pub public : (one other : List Arg) → Agree straight.parameters one other
      → AgreeInPublic straight.parameters straight.returned (outcome_of straight one) (outcome_of straight other)
