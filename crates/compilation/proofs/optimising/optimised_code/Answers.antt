use Rattle.std.proofs.Common.{sym, ◌∙◌}
use Rattle.compilation.proofs.Anywhere.{optimised_is_code}
use Rattle.compilation.proofs.optimising.optimised_code.Goals as goal

pub returns-in_ok-needs-in-Some-clause-generated : goal.returns-in_ok-needs-in-Some-clause-generated
returns-in_ok-needs-in-Some-clause-generated c =
    let made = c.in_ok-code.ensures in
    let p = c.args.straight.now in
    optimised_is_code p p _ c.in_ok-needs-in-Some.ensures.kept (λ ranged removed. removed)
    (rw c.in-Some.is at made.generated) (sym made.exact ∙ c.in-Some.is) c.in_ok-needs-in-Some.ensures.needs
