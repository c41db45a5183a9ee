-- The one straight program for a body: two answers of `remove` are one. How branches are removed is private.
use Rattle.branch_removal.specs.private.Removal.{straightened}
use Rattle.branch_removal.specs.Straight.{StraightProgram}
use Rattle.branch_removal.specs.Below.{RangedProgram}

unfoldable pub straight_of : RangedProgram → StraightProgram
straight_of ranged = straightened ranged
