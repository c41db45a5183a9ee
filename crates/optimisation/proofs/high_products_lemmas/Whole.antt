-- The program in which upper words of products are operators may stand in the place of the program.
use Rattle.std.proofs.Common.{◌≡◌, ℕ, List, Option, sym, ap, ◌∙◌, subst}
use Rattle.inline.proofs.FittingBodies.{given_fits}
use Rattle.optimisation.specs.Below.{AreWithin, Arg, end_of, Fits, IsReplaced, IsStraight, IsTypedStraight, outcome_of}
use Rattle.optimisation.specs.Below.{path_of, path_of_result, results_of, start, StraightProgram, StraightState, Types}
use Rattle.optimisation.specs.Below.{types_of, Values}
use Rattle.optimisation.specs.high_products.private.Replacing.{replaced_all, replaced_program}
use Rattle.optimisation.proofs.constants_lemmas.Held.{fits_after_all}
use Rattle.optimisation.proofs.high_products_lemmas.Same.{all_same, AllDoTheSame, result_stands}
use Rattle.straight_words.proofs.over_lemmas.Values.{both, IsNoWorse, IsResultAlike}
use Rattle.straight_words.proofs.over_lemmas.Whole.{is_replaced}

module _ (p : StraightProgram) (typed : IsTypedStraight p) (args : List Arg) (within : AreWithin p.parameters args)
  where
    abbrev types : Types
    types = types_of p.profile p.declared

    abbrev made : StraightProgram
    made = replaced_program p

    starts : Fits types (start p args).variables
    starts = given_fits p.parameters p.declared args within typed.parameters

    ends : Fits types (end_of p args)
    ends = fits_after_all p.profile p.declared p.controls p.body typed.body (start p args) starts

    run : AllDoTheSame p.iterations (start p args) p.body (replaced_all p.body)
    run = all_same p.iterations p.profile p.declared p.controls p.body typed.body (start p args) starts

    same_end : end_of made args ≡ end_of p args
    same_end = ap (λ (s : StraightState). s.variables) run.after

    result : IsResultAlike p.iterations (end_of p args) (end_of p args) p.value made.value
    result = result_stands p.iterations types (end_of p args) ends p.returned p.value typed.result

    same_outcome : outcome_of made args ≡ outcome_of p args
    same_outcome =
        ap (results_of p.parameters made.value) same_end
        ∙ ap (λ (v : Option ℕ). record { returned = v; arrays = (outcome_of p args).arrays }) result.value

    path : IsNoWorse p.iterations (path_of p args) (path_of made args)
    path =
        both p.iterations run.path
        (subst (λ (m : Values). IsNoWorse p.iterations (path_of_result (end_of p args) p.value)
        (path_of_result m made.value)) (sym same_end) result.path)

pub may_stand : (p : StraightProgram) → IsStraight p → IsStraight (replaced_program p)
    → IsReplaced p (replaced_program p)
may_stand p kept =
    is_replaced p p.declared (replaced_program p).body (replaced_program p).value
    (λ args within. (same_outcome p kept.typed args within, path p kept.typed args within))
