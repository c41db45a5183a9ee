use Rattle.std.proofs.Common.{refl, subst}
use Rattle.std.specs.Prelude.{◌≡◌, IfOk, IfSome}
use Rattle.std.specs.Option.{option_map}
use Rattle.std.proofs.lemmas.Option.{IfSome_then}
use Rattle.std.proofs.lemmas.Result.{IfOk-weaker}
use Rattle.compilation.specs.Below.{optimised_fields_of, unrolled_of, StraightProgram}
use Rattle.compilation.specs.Needs.{needs_as, optimised_needs}
use Rattle.compilation.specs.Exact.{after, finished_in_groups}
use Rattle.optimisation.specs.high_products.Exact.{with_high_products}
use Rattle.compilation.proofs.PassedOn.{after_pass, stands_on}
use Rattle.compilation.proofs.optimising.unrolled.Goals as goal

-- each of the programs may stand in the place of the one before
pub returns-clause-generated : goal.returns-clause-generated
returns-clause-generated c =
    let law = c.replaced_is_removed.ensures in
    IfOk-weaker c.in_groups.result _ _
    (λ made there.
    IfSome_then made there (λ code is. record {
      source = is.source;
      stands = λ ranged removed.
          is.stands ranged
          (stands_on ranged _ _ _ (law ranged) c.in_ok-without_loops.ensures.replaced c.made_or_given-code.ensures
          (stands_on ranged _ _ _ (law ranged) c.in_ok-with_operators.ensures.replaced c.made_or_given-products.ensures
          removed));
      generated = is.generated;
      follows = is.follows;
    }))
    c.in_groups.ensures.generated

pub returns-clause-exact : goal.returns-clause-exact
returns-clause-exact c =
    let p = c.args.straight.now in
    let code : c.made_or_given-code.result.now ≡ after unrolled_of (after with_high_products p) =
    after_pass unrolled_of _ _ _ _ c.made_or_given-code.ensures c.in_ok-without_loops.ensures.exact
    (after_pass with_high_products _ _ _ _ c.made_or_given-products.ensures c.in_ok-with_operators.ensures.exact refl) in
    subst (λ (q : StraightProgram). IfOk c.in_groups.result
    (λ made. option_map (λ made. made.code) made ≡ optimised_fields_of (finished_in_groups q))) code c.in_groups.ensures.exact

pub returns-clause-needs : goal.returns-clause-needs
returns-clause-needs c =
    let p = c.args.straight.now in
    let code : c.made_or_given-code.result.now ≡ after unrolled_of (after with_high_products p) =
    after_pass unrolled_of _ _ _ _ c.made_or_given-code.ensures c.in_ok-without_loops.ensures.exact
    (after_pass with_high_products _ _ _ _ c.made_or_given-products.ensures c.in_ok-with_operators.ensures.exact refl) in
    subst (λ (q : StraightProgram). IfOk c.in_groups.result
    (λ made. IfSome made (λ made. needs_as made.needs ≡ optimised_needs (finished_in_groups q)))) code c.in_groups.ensures.needs
