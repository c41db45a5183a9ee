-- What a run of well-typed straight code shows, and its public results, are decided by what is public.
use Rattle.std.proofs.Common.{◌≡◌, List, ◌∙◌}
use Rattle.language.specs.arguments.Agreement as arguments
use Rattle.branch_removal.specs.Below.{AgreeInPublic, AreWithin, Arg, declaration_of, given, parameter_types}
use Rattle.branch_removal.specs.Below.{path_of_result, RangedProgram, seen, types_of}
use Rattle.branch_removal.specs.Removed.{IsRemoved}
use Rattle.branch_removal.specs.Replaced.{IsReplaced}
use Rattle.branch_removal.specs.Straight.{StraightProgram}
use Rattle.branch_removal.specs.StraightMeaning.{start, end_of, after_all, path_along, outcome_of, path_of}
use Rattle.branch_removal.specs.StraightTyping.{IsTypedStraight}
use Rattle.branch_removal.proofs.Agreement.{Agree, what_is_public}
use Rattle.branch_removal.proofs.Public.{Alike, in_step_all}
use Rattle.branch_removal.proofs.Results.{parameters_among, parameter_at, given_in_step, all_public_arrays, same_return}
use Rattle.branch_removal.proofs.Scopes.{AreAmong}
use Rattle.branch_removal.proofs.SeenLemmas.{both_seen}
use Rattle.branch_removal.proofs.Values.{result_seen}

module _ (p : StraightProgram) (typed : IsTypedStraight p) where
  first_among : AreAmong (parameter_types p.profile p.parameters) (types_of p.profile p.declared)
  first_among = parameters_among p.profile p.parameters p.declared typed.parameters

  module _ (one other : List Arg) (agree : arguments.Agree p.parameters one other) where
    first_agree : Agree what_is_public (types_of p.profile p.declared) (given p.declared one) (given p.declared other)
    first_agree = given_in_step p.profile p.parameters p.declared one other typed.parameters agree.one_within
        agree.other_within agree.equal

    both_runs : Alike p.profile p.declared p.controls (after_all (start p one) p.body) (after_all (start p other) p.body)
        (path_along (start p one) p.body) (path_along (start p other) p.body)
    both_runs = in_step_all p.profile p.declared p.controls p.body typed.body typed.hidden (start p one)
        (start p other) first_agree

    end_agree : Agree what_is_public (types_of p.profile p.declared) (end_of p one) (end_of p other)
    end_agree = both_runs.state

    pub same_paths : seen p.profile (path_of p one) ≡ seen p.profile (path_of p other)
    same_paths =
        let s = start p one in
        let t = start p other in
        both_seen p.profile
        (path_along s p.body) (path_of_result (end_of p one) p.value)
        (path_along t p.body) (path_of_result (end_of p other) p.value)
        both_runs.shown
        (result_seen (types_of p.profile p.declared) _ _ end_agree p.returned p.value typed.result)

    pub same_public : AgreeInPublic p.parameters p.returned (outcome_of p one) (outcome_of p other)
    same_public = record {
      returned_equal = λ public. same_return (types_of p.profile p.declared) _ _ end_agree p.returned p.value
          typed.result public;
      arrays_equal = all_public_arrays p.parameters _ _ (λ k parameter there public.
          end_agree k (declaration_of parameter)
          (first_among.at k (declaration_of parameter) (parameter_at p.parameters k parameter there)) public);
    }

module _ (ranged : RangedProgram) (before after : StraightProgram) (removed : IsRemoved ranged before)
    (replaced : IsReplaced before after) where
  within : (args : List Arg) → AreWithin after.parameters args → AreWithin before.parameters args
  within args fits = rw replaced.parameters at fits

  pub still_removed : IsRemoved ranged after
  still_removed = record {
    profile = replaced.profile ∙ removed.profile;
    parameters = replaced.parameters ∙ removed.parameters;
    returned = replaced.returned ∙ removed.returned;
    nodes = replaced.nodes ∙ removed.nodes;
    work = replaced.work ∙ removed.work;
    iterations = replaced.iterations ∙ removed.iterations;
    bounded = replaced.straight.bounded;
    typed = replaced.straight.typed;
    outcome = λ args fits. replaced.outcome args (within args fits) ∙ removed.outcome args (within args fits);
    fine = λ args fits. replaced.fine args (within args fits) (removed.fine args (within args fits));
    paths = λ one other agree. same_paths after replaced.straight.typed one other agree;
    public = λ one other agree. same_public after replaced.straight.typed one other agree;
  }
