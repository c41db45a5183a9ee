use Rattle.std.proofs.Common.{refl, subst}
use Rattle.std.specs.Prelude.{◌≡◌, IfOk, IfSome}
use Rattle.std.specs.Option.{option_map}
use Rattle.std.proofs.lemmas.Option.{IfSome_then}
use Rattle.std.proofs.lemmas.Result.{IfOk-weaker}
use Rattle.compilation.specs.Below.{optimised_fields_of, StraightProgram}
use Rattle.compilation.specs.Needs.{needs_as, optimised_needs}
use Rattle.compilation.specs.Exact.{after, finished_of}
use Rattle.optimisation.specs.iteration_groups.Exact.{grouped_of}
use Rattle.compilation.proofs.PassedOn.{after_pass, stands_on}
use Rattle.compilation.proofs.optimising.in_groups.Goals as goal

-- the program with groups may stand in the place of the one before
pub returns-clause-generated : goal.returns-clause-generated
returns-clause-generated c =
    let law = c.replaced_is_removed.ensures in
    IfOk-weaker c.finished.result _ _
    (λ made there.
    IfSome_then made there (λ code is. record {
      source = is.source;
      stands = λ ranged removed.
          is.stands ranged
          (stands_on ranged _ _ _ (law ranged) c.in_ok-with_groups.ensures.replaced c.made_or_given-code.ensures
          removed);
      generated = is.generated;
      follows = is.follows;
    }))
    c.finished.ensures.generated

pub returns-clause-exact : goal.returns-clause-exact
returns-clause-exact c =
    let code : c.made_or_given-code.result.now ≡ after grouped_of c.args.straight.now =
    after_pass grouped_of _ _ _ _ c.made_or_given-code.ensures c.in_ok-with_groups.ensures.exact refl in
    subst (λ (q : StraightProgram). IfOk c.finished.result
    (λ made. option_map (λ made. made.code) made ≡ optimised_fields_of (finished_of q))) code c.finished.ensures.exact

pub returns-clause-needs : goal.returns-clause-needs
returns-clause-needs c =
    let code : c.made_or_given-code.result.now ≡ after grouped_of c.args.straight.now =
    after_pass grouped_of _ _ _ _ c.made_or_given-code.ensures c.in_ok-with_groups.ensures.exact refl in
    subst (λ (q : StraightProgram). IfOk c.finished.result
    (λ made. IfSome made (λ made. needs_as made.needs ≡ optimised_needs (finished_of q)))) code c.finished.ensures.needs
