-- What all straight code keeps.
use Rattle.branch_removal.specs.Bounds.{IsBounded}
use Rattle.branch_removal.specs.Straight.{StraightProgram}
use Rattle.branch_removal.specs.StraightTyping.{IsTypedStraight}

-- it is well typed, and within the limits on size
pub record IsStraight (p : StraightProgram) : Type 0 where
  pub typed : IsTypedStraight p
  pub bounded : IsBounded p
