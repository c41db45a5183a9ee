-- Space for how harts have ended.
use Rattle.std.specs.Prelude.{◌≡◌, ◌≤◌, List, [], length, vec_capacity}
use Rattle.std.specs.List.{AllZip}
use Rattle.harts.specs.Below.{IsSpaceFor, ResultSpace}
use Rattle.harts.specs.SideBySide.{Job}
use Rattle.harts.specs.declared.ends.EndSpace.{EndSpace}

-- space for the arrays that a job's image may change
abbrev pub HasSpace : Job → ResultSpace → Type 0
HasSpace job space = IsSpaceFor job.image space

-- space for the outcome of each job, in their order, and for as many ends
pub record IsEndSpaceFor (jobs : List Job) (space : EndSpace) : Type 0 where
  pub each : AllZip HasSpace jobs space.each.items
  pub empty : space.ends.items ≡ []
  pub enough : length space.each.items ≤ vec_capacity space.ends
