use Rattle.std.proofs.Common.{refl, subst}
use Rattle.std.specs.Prelude.{◌≡◌, IfOk, IfSome}
use Rattle.std.specs.Option.{option_map}
use Rattle.std.proofs.lemmas.Option.{IfSome_then}
use Rattle.std.proofs.lemmas.Result.{IfOk-weaker}
use Rattle.compilation.specs.Below.{optimised_fields_of, simplified_of, StraightProgram}
use Rattle.compilation.specs.Needs.{needs_as, optimised_needs}
use Rattle.compilation.specs.Exact.{after, fitted_where_shared}
use Rattle.straight_words.specs.element_words.Exact.{split_of}
use Rattle.compilation.proofs.PassedOn.{after_pass, stands_on}
use Rattle.compilation.proofs.optimising.finished.Goals as goal

-- each of the programs may stand in the place of the one before
pub returns-clause-generated : goal.returns-clause-generated
returns-clause-generated c =
    let law = c.replaced_is_removed.ensures in
    IfOk-weaker c.shared_code.result _ _
    (λ made there.
    IfSome_then made there (λ code is. record {
      source = is.source;
      stands = λ ranged removed.
          is.stands ranged
          (stands_on ranged _ _ _ (law ranged) c.in_ok-with_numbers.ensures.replaced c.made_or_given-simpler.ensures
          (stands_on ranged _ _ _ (law ranged) c.in_ok-with_words.ensures.replaced c.made_or_given-split.ensures
          removed));
      generated = is.generated;
      follows = is.follows;
    }))
    c.shared_code.ensures.generated

pub returns-clause-exact : goal.returns-clause-exact
returns-clause-exact c =
    let p = c.args.straight.now in
    let simpler : c.made_or_given-simpler.result.now ≡ after simplified_of (after split_of p) =
    after_pass simplified_of _ _ _ _ c.made_or_given-simpler.ensures c.in_ok-with_numbers.ensures.exact
    (after_pass split_of _ _ _ _ c.made_or_given-split.ensures c.in_ok-with_words.ensures.exact refl) in
    subst (λ (q : StraightProgram). IfOk c.shared_code.result
    (λ made. option_map (λ made. made.code) made ≡ optimised_fields_of (after fitted_where_shared q)))
    simpler c.shared_code.ensures.exact

pub returns-clause-needs : goal.returns-clause-needs
returns-clause-needs c =
    let p = c.args.straight.now in
    let simpler : c.made_or_given-simpler.result.now ≡ after simplified_of (after split_of p) =
    after_pass simplified_of _ _ _ _ c.made_or_given-simpler.ensures c.in_ok-with_numbers.ensures.exact
    (after_pass split_of _ _ _ _ c.made_or_given-split.ensures c.in_ok-with_words.ensures.exact refl) in
    subst (λ (q : StraightProgram). IfOk c.shared_code.result
    (λ made. IfSome made (λ made. needs_as made.needs ≡ optimised_needs (after fitted_where_shared q))))
    simpler c.shared_code.ensures.needs
