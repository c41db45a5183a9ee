use Rattle.std.proofs.Common.{ap, ◌∙◌}
use Rattle.hepurita.specs.Below.{FlatProgram}
use Rattle.hepurita.proofs.judging.judge_as.Goals as goal

pub returns-clause-accepted : goal.returns-clause-accepted
returns-clause-accepted c =
    let is = c.in_ok-flattened.ensures.accepted in
    let counted = c.in_ok-ranged.ensures.accepted c.args.profile c.args.source.now is in
    let params = c.in_ok-params.ensures.items_if_clones_equal (λ x y h. h) ∙ c.parameters.ensures
    ∙ ap (λ (flat : FlatProgram). flat.parameters) is.body in
    let returned = c.returned.ensures ∙ ap (λ (flat : FlatProgram). flat.returned) is.body in
    (is.before, is.export, counted.1, params, returned)
