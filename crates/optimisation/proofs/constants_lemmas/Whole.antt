-- The simpler program may stand in the place of the program.
use Rattle.std.proofs.Common.{◌≡◌, ℕ, List, length, Option, sym, ap, ◌∙◌, subst}
use Rattle.optimisation.specs.Below.{after_all, AreWithin, Arg, end_of, IsReplaced, IsStraight, IsTypedStraight}
use Rattle.optimisation.specs.Below.{outcome_of, path_along, path_of, path_of_result, results_of, start}
use Rattle.optimisation.specs.Below.{StraightProgram, StraightState, Types, types_of, Values}
use Rattle.inline.proofs.FittingBodies.{given_fits}
use Rattle.optimisation.specs.constants.private.Known.{WordFacts}
use Rattle.optimisation.specs.constants.private.Simplification.{knowing_all, simplified_all, nothing_known}
use Rattle.optimisation.specs.constants.private.Simplification.{simplified_program}
use Rattle.optimisation.proofs.constants_lemmas.KnownLemmas.{nothing_first, FactsHold}
use Rattle.optimisation.proofs.constants_lemmas.Held.{fits_after_all}
use Rattle.optimisation.proofs.constants_lemmas.TermLemmas.{result_alike}
use Rattle.optimisation.proofs.constants_lemmas.Same.{LeadsTo, all_lead}
use Rattle.straight_words.proofs.over_lemmas.Values.{IsNoWorse, both, IsResultAlike}
use Rattle.straight_words.proofs.over_lemmas.Whole.{is_replaced}

module _ (unroll_limits : List ℕ) (p : StraightProgram) where
  abbrev last_words : WordFacts
  last_words = knowing_all unroll_limits p.declared (nothing_known p) p.body

  module _ (typed : IsTypedStraight p) where
    module _ (args : List Arg) (within : AreWithin p.parameters args) where
      abbrev types : Types
      types = types_of p.profile p.declared

      first_holds : FactsHold types (nothing_known p) (start p args).variables
      first_holds = record {
        agrees = λ f is. absurd (nothing_first (length p.declared) f is);
        fits = given_fits p.parameters p.declared args within typed.parameters;
      }

      leads : LeadsTo p.iterations (start p args)
          (simplified_all unroll_limits p.declared (nothing_known p) p.body) last_words
          (after_all (start p args) p.body) (path_along (start p args) p.body)
      leads =
          all_lead p.iterations p.profile p.declared p.controls unroll_limits (nothing_known p) p.body typed.body
          (start p args)
          first_holds

      last_holds : FactsHold types last_words (end_of p args)
      last_holds = record {
        agrees = leads.agrees;
        fits = fits_after_all p.profile p.declared p.controls p.body typed.body (start p args) first_holds.fits;
      }

      same_end : end_of (simplified_program unroll_limits p) args ≡ end_of p args
      same_end = ap (λ (s : StraightState). s.variables) leads.same

      result : IsResultAlike p.iterations (end_of p args) (end_of p args) p.value
          (simplified_program unroll_limits p).value
      result = result_alike p.iterations types last_words (end_of p args) last_holds p.returned p.value typed.result

      same_outcome : outcome_of (simplified_program unroll_limits p) args ≡ outcome_of p args
      same_outcome =
          ap (results_of p.parameters (simplified_program unroll_limits p).value) same_end
          ∙ ap (λ (v : Option ℕ). record { returned = v; arrays = (outcome_of p args).arrays }) result.value

      path : IsNoWorse p.iterations (path_of p args) (path_of (simplified_program unroll_limits p) args)
      path =
          both p.iterations leads.path
          (subst (λ (m : Values). IsNoWorse p.iterations (path_of_result (end_of p args) p.value)
          (path_of_result m (simplified_program unroll_limits p).value)) (sym same_end) result.path)

  pub replaced : IsStraight p → IsStraight (simplified_program unroll_limits p) → IsReplaced p
      (simplified_program unroll_limits p)
  replaced kept =
      is_replaced p p.declared (simplified_program unroll_limits p).body (simplified_program unroll_limits p).value
      (λ args within. (same_outcome kept.typed args within, path kept.typed args within))
