use Rattle.std.proofs.Common.{subst, sym, ◌∙◌}
use Rattle.std.specs.Prelude.{◌≡◌, IfOk, IfSome}
use Rattle.std.specs.Option.{option_map}
use Rattle.std.proofs.lemmas.Option.{IfSome_then}
use Rattle.std.proofs.lemmas.Result.{IfOk-weaker}
use Rattle.compilation.specs.Below.{optimised_fields_of, StraightProgram}
use Rattle.compilation.specs.Needs.{needs_as, optimised_needs}
use Rattle.compilation.proofs.PassedOn.{after_made, after_none}
use Rattle.variable_room.specs.needed_variables.Exact.{fitted_of}
use Rattle.variable_room.specs.number_words.Exact.{numbers_as_words}
use Rattle.compilation.proofs.optimising.fitted_with_words.Goals as goal

pub returns-in-Some-clause-generated : goal.returns-in-Some-clause-generated
returns-in-Some-clause-generated c =
    IfOk-weaker c.fitted_code.result _ _
    (λ made there.
    IfSome_then made there (λ code is. record {
      source = is.source;
      stands = λ ranged removed.
          is.stands ranged (c.replaced_is_removed.ensures ranged _ _ removed
          (rw c.in-Some.is at c.in_ok-with_words.ensures.replaced));
      generated = is.generated;
      follows = is.follows;
    }))
    c.fitted_code.ensures.generated

pub returns-in-Some-clause-exact : goal.returns-in-Some-clause-exact
returns-in-Some-clause-exact c =
    subst (λ (q : StraightProgram). IfOk c.fitted_code.result
    (λ made. option_map (λ made. made.code) made ≡ optimised_fields_of (fitted_of q)))
    (sym (after_made numbers_as_words c.args.straight _ (sym c.in_ok-with_words.ensures.exact ∙ c.in-Some.is)))
    c.fitted_code.ensures.exact

pub returns-in-Some-clause-needs : goal.returns-in-Some-clause-needs
returns-in-Some-clause-needs c =
    subst (λ (q : StraightProgram). IfOk c.fitted_code.result
    (λ made. IfSome made (λ made. needs_as made.needs ≡ optimised_needs (fitted_of q))))
    (sym (after_made numbers_as_words c.args.straight _ (sym c.in_ok-with_words.ensures.exact ∙ c.in-Some.is)))
    c.fitted_code.ensures.needs
