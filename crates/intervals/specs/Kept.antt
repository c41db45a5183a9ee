-- What all bodies with what is counted for them keep.
use Rattle.std.specs.Prelude.{◌≡◌, ◌≤◌}
use Rattle.intervals.specs.Limits.{most_work}
use Rattle.intervals.specs.Loose.{IsSafe}
use Rattle.intervals.specs.Ranged.{RangedProgram}
use Rattle.intervals.specs.Work.{ranged}

-- the counts are those of the body, its work is within the limit, and it is safe with these iterations
pub record IsRanged (r : RangedProgram) : Type 0 where
  pub counted : r ≡ ranged r.flat
  pub worked : r.work ≤ most_work
  pub safe : IsSafe r.flat r.iterations
