use Rattle.std.proofs.Common.{refl}
use Rattle.branch_removal.proofs.Checked.{where_checked}
use Rattle.optimisation.specs.Below.{IsReplaced}
use Rattle.optimisation.proofs.constants_lemmas.Whole.{replaced}
use Rattle.optimisation.proofs.constants.simplification.simpler.Goals as goal

-- What is built is the simpler program, by what each call ensures.
pub returns-clause-exact : goal.returns-clause-exact
returns-clause-exact c =
    rw (
      c.rewritten.ensures.exact,
      c.in_ok-value.ensures,
      c.value.ensures,
      c.in_ok-statements.ensures.code,
      c.in_ok-statements.ensures.known,
      c.in_ok-known.ensures,
      c.body.ensures.body,
      c.declared-declared.ensures,
      c.new-code.ensures.items,
    ) refl

pub returns-clause-replaced : goal.returns-clause-replaced
returns-clause-replaced c =
    let p = c.args.straight.now in
    where_checked (IsReplaced p) _ _ (returns-clause-exact c) c.rewritten.ensures.straight
    (replaced c.args.unroll_limits.now p c.body.ensures.kept)
