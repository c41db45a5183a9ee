use Rattle.std.proofs.Common.{inl, inr}
use Rattle.harts.specs.Refused.{of_count}
use Rattle.harts.proofs.checking.check_count.Goals.{then-harts-eq0-via-then-harts-eq0}
use Rattle.harts.proofs.checking.check_count.Goals.{then-harts-eq0-via-else-harts-eq0+then-harts-gt-MOST_IMAGES}
use Rattle.harts.proofs.checking.check_count.Goals as goal

pub returns-then-harts-eq0-clause-refused : goal.returns-then-harts-eq0-clause-refused
returns-then-harts-eq0-clause-refused c =
    elim c.then-harts-eq0.branch [
      | then-harts-eq0-via-then-harts-eq0 w ↦ of_count (inl w.if-harts-eq0.true)
      | then-harts-eq0-via-else-harts-eq0+then-harts-gt-MOST_IMAGES w ↦ of_count (inr w.if-harts-gt-MOST_IMAGES.true)
    ]
