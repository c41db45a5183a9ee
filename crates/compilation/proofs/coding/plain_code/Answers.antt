use Rattle.std.proofs.Common.{ap, subst, ◌∙◌}
use Rattle.branch_removal.specs.Kept.{IsStraight}
use Rattle.compilation.specs.Needs.{plain_needs}
use Rattle.compilation.proofs.Anywhere.{plain_is_code}
use Rattle.compilation.proofs.coding.plain_code.Goals as goal

pub returns-clause-generated : goal.returns-clause-generated
returns-clause-generated c =
    let same = c.code.ensures.code in
    plain_is_code c.args.straight.now _ (subst IsStraight same c.in_ok-needs.ensures.kept) c.code.ensures.counted
    c.in_ok-code.ensures.generated c.in_ok-code.ensures.exact (c.in_ok-needs.ensures.needs ∙ ap plain_needs same)
