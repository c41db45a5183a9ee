use Rattle.std.proofs.Common.{refl}
use Rattle.branch_removal.proofs.Checked.{where_checked}
use Rattle.optimisation.specs.Below.{IsReplaced}
use Rattle.optimisation.proofs.high_products_lemmas.Whole.{may_stand}
use Rattle.optimisation.proofs.high_products.replacing.replaced.Goals as goal

pub returns-clause-exact : goal.returns-clause-exact
returns-clause-exact c =
    rw (
      c.rewritten.ensures.exact,
      c.in_ok-value.ensures,
      c.value.ensures,
      c.in_ok-code.ensures,
      c.body.ensures.body,
      c.declared.ensures,
    ) refl

pub returns-clause-replaced : goal.returns-clause-replaced
returns-clause-replaced c =
    let p = c.args.straight.now in
    where_checked (IsReplaced p) _ _ (returns-clause-exact c) c.rewritten.ensures.straight
    (may_stand p c.body.ensures.kept)
