use Rattle.std.proofs.Common.{ap, subst, sym, ◌∙◌}
use Rattle.variable_room.specs.Below.{IsReplaced, IsStraight, redeclared}
use Rattle.variable_room.specs.needed_variables.Exact.{fitted_of}
use Rattle.variable_room.proofs.needed_variables_lemmas.Whole.{replaced}
use Rattle.variable_room.proofs.needed_variables.with_needed.Goals as goal

pub returns-clause-exact : goal.returns-clause-exact
unfolding fitted_of
returns-clause-exact c = c.redeclared-fitted.ensures ∙ ap (redeclared c.args.straight) c.requires

pub returns-clause-replaced : goal.returns-clause-replaced
returns-clause-replaced c =
    let p = c.args.straight in
    let is = returns-clause-exact c in
    subst (IsReplaced p) (sym is) (replaced p c.straight_code_is_kept.ensures (subst IsStraight is
    c.straight_code_is_kept-2.ensures))
