-- Code for straight code: for itself, or for other that may stand in its place.
use Rattle.compilation.specs.Begun.{FollowsAnywhere}
use Rattle.compilation.specs.Below.{Fields, IsGenerated, IsRemoved, RangedProgram, StraightProgram}
use Rattle.compilation.specs.Needs.{needs_as}
use Rattle.compilation.specs.declared.generated.Generated.{Generated}

pub record IsCodeFor (straight : StraightProgram) (made : Generated) : Type 0 where
  -- what the code is generated from
  pub source : StraightProgram
  -- it is straight code of each body whose straight code this is
  pub stands : (ranged : RangedProgram) → IsRemoved ranged straight → IsRemoved ranged source
  pub generated : IsGenerated source made.code
  -- and from each frame that is as the code needs it the machine follows that
  pub follows : FollowsAnywhere source made.code (needs_as made.needs)
