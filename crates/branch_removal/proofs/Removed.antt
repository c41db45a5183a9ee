-- Straight code is what is promised of it.
use Rattle.std.proofs.Common.{◌≡◌, ℕ, ◌≤◌, List, [], Option, None, Some, slice_get, refl, ap, ap₂, ◌∙◌, subst, sym}
use Rattle.std.proofs.Common.{arith}
use Rattle.branch_removal.specs.Below.{AreFine, AreWithin, Arg, declaration_of, end_types, FlatBlock, FlatProgram}
use Rattle.branch_removal.specs.Below.{given, IsFlat, IsSafe, IsSized, IsTypedFlat, most_work, Param}
use Rattle.branch_removal.specs.Below.{parameter_types, path_of_result, Public, ranged, RangedProgram, TermTree}
use Rattle.branch_removal.specs.Below.{types_of}
use Rattle.inline.specs.FlatMeaning as flat
use Rattle.intervals.specs.Kept.{IsRanged}
use Rattle.branch_removal.specs.private.Removal.{controls_in_all, removed_all, straightened}
use Rattle.branch_removal.specs.Removed.{IsRemoved}
use Rattle.branch_removal.specs.declared.straight.StraightStatement.{StraightStatement}
use Rattle.branch_removal.specs.Straight.{StraightBlock, chain, straight_block}
use Rattle.branch_removal.specs.StraightMeaning.{start, end_of, path_along, outcome_of, path_of}
use Rattle.branch_removal.specs.StraightTyping.{IsTypedStraight}
use Rattle.branch_removal.proofs.Agreement.{Agree, everything}
use Rattle.branch_removal.proofs.BoundLemmas.{bounded, counted}
use Rattle.branch_removal.specs.Bounds.{IsCounted}
use Rattle.branch_removal.proofs.Sequences.{fine_both, fine_front, fine_back}
use Rattle.intervals.proofs.StrictRuns.{result_comes}
use Rattle.branch_removal.proofs.Loose.{follow_all}
use Rattle.branch_removal.proofs.Results.{parameters_among, parameter_at, all_arrays}
use Rattle.branch_removal.proofs.Same.{same_all}
use Rattle.branch_removal.proofs.Scopes.{AreAmong, among_after_all, result_among}
use Rattle.inline.proofs.Face.{types_kept}
use Rattle.branch_removal.proofs.Typed.{AreStraight, all_straight}
use Rattle.branch_removal.proofs.SeenLemmas.{fine_alike}
use Rattle.branch_removal.proofs.Shown.{same_paths, same_public}
use Rattle.branch_removal.proofs.Values.{one_result, result_seen}

module _ (p : FlatProgram) (typed : IsTypedFlat p) where
  first_among : AreAmong (parameter_types p.profile p.parameters) (types_of p.profile p.declared)
  first_among = parameters_among p.profile p.parameters p.declared typed.parameters

  end_among : AreAmong (end_types p) (types_of p.profile p.declared)
  end_among = among_after_all p.profile p.declared (parameter_types p.profile p.parameters) Public p.body typed.body
      first_among

  body : AreStraight p.profile p.declared (controls_in_all p.body) (removed_all None 0 p.body)
  body = all_straight p.profile p.declared (controls_in_all p.body) (parameter_types p.profile p.parameters) Public
      p.body typed.body first_among None 0 tt tt (omega arith)

  typed_straight : IsTypedStraight (straightened (ranged p))
  typed_straight = record {
    parameters = typed.parameters;
    body = body.typed;
    hidden = body.hidden;
    result = result_among (end_types p) (types_of p.profile p.declared) end_among p.returned p.value typed.result;
  }

  -- a parameter is in scope at the end
  parameter_stays : (k : ℕ) (parameter : Param) → slice_get p.parameters k ≡ Some parameter
      → (end_types p).at k ≡ Some (declaration_of parameter)
  parameter_stays k parameter there =
      types_kept p.declared (parameter_types p.profile p.parameters) Public p.body typed.body k
      (declaration_of parameter) (parameter_at p.parameters k parameter there)

  module _ (args : List Arg) where
    same_end : Agree everything (end_types p) (end_of (straightened (ranged p)) args) (flat.end_of p args)
    same_end = same_all p.declared (parameter_types p.profile p.parameters) Public p.body typed.body None 0 tt
        (start (straightened (ranged p)) args) (given p.declared args) refl (λ y d known seen. refl)

    same_outcome : outcome_of (straightened (ranged p)) args ≡ flat.outcome_of p args
    same_outcome =
        ap₂ (λ (v : Option ℕ) (arrays : List (List ℕ)). record { returned = v; arrays = arrays })
        (one_result (end_types p) _ _ same_end p.returned p.value typed.result)
        (all_arrays p.parameters _ _ (λ k parameter there.
        same_end k (declaration_of parameter) (parameter_stays k parameter there) tt))

    fine_path : (iterations : List ℕ) → IsSafe p iterations → AreWithin p.parameters args
        → AreFine iterations (path_of (straightened (ranged p)) args)
    fine_path iterations safe within =
        let s = start (straightened (ranged p)) args in
        let types = types_of p.profile p.declared in
        let run = follow_all p.profile p.declared iterations
        (parameter_types p.profile p.parameters) Public p.body typed.body
        first_among None 0 tt s (given p.declared args) (λ y d known public. refl) in
        fine_both iterations (path_along s (removed_all None 0 p.body))
        (path_of_result (end_of (straightened (ranged p)) args) p.value)
        (run.fine
        (λ t q leads. fine_front iterations q (path_of_result t p.value)
        (safe args _ within (record {
          end = t;
          front = q;
          back = path_of_result t p.value;
          body = leads;
          result = result_comes types t p.value;
          whole = refl;
        }))))
        (fine_alike iterations (end_types p).profile (path_of_result (end_of (straightened (ranged p)) args) p.value)
        (path_of_result run.end p.value)
        (result_seen (end_types p) _ _ run.agree p.returned p.value typed.result)
        (fine_back iterations run.path (path_of_result run.end p.value)
        (safe args _ within (record {
          end = run.end;
          front = run.path;
          back = path_of_result run.end p.value;
          body = run.runs;
          result = result_comes types run.end p.value;
          whole = refl;
        }))))

is_removed : (p : FlatProgram) → IsTypedFlat p → IsSized p → IsSafe p (ranged p).iterations
    → (ranged p).work ≤ most_work → IsRemoved (ranged p) (straightened (ranged p))
is_removed p typed sized safe fits = record {
  profile = refl;
  parameters = refl;
  returned = refl;
  nodes = refl;
  work = refl;
  iterations = refl;
  bounded = bounded p sized fits;
  typed = typed_straight p typed;
  outcome = λ args within. same_outcome p typed args;
  fine = λ args within. fine_path p typed args (ranged p).iterations safe within;
  paths = λ one other agree. same_paths (straightened (ranged p)) (typed_straight p typed) one other agree;
  public = λ one other agree. same_public (straightened (ranged p)) (typed_straight p typed) one other agree;
}

-- straight code of these controls and statements, made behind none
pub as_listed : (r : RangedProgram) (flat : FlatProgram) (read : FlatBlock) (controls : ℕ)
    (front : List StraightStatement) (body : StraightBlock) (given value : Option TermTree)
    → flat ≡ r.flat → read ≡ flat.body → controls ≡ controls_in_all read → front ≡ []
    → body ≡ chain (straight_block front) (removed_all None 0 read) → given ≡ flat.value → value ≡ given
    → record {
      profile = r.flat.profile;
      parameters = r.flat.parameters;
      returned = r.flat.returned;
      nodes = r.flat.nodes;
      work = r.work;
      iterations = r.iterations;
      declared = r.flat.declared;
      controls = controls;
      body = body;
      value = value;
    } ≡ straightened r
as_listed r flat read controls front body given value same whole counted none made result copied =
    let at = whole ∙ ap (λ (p : FlatProgram). p.body) same in
    let made_of = made ∙ ap₂ (λ (xs : List StraightStatement) (b : FlatBlock). chain (straight_block xs)
    (removed_all None 0 b)) none at in
    rw (
      counted ∙ ap controls_in_all at,
      made_of,
      copied ∙ (result ∙ ap (λ (p : FlatProgram). p.value) same),
    ) refl

-- so of a body with what is counted for it
pub removed_as_promised : (r : RangedProgram) → IsFlat r.flat → IsRanged r → IsRemoved r (straightened r)
removed_as_promised r flat kept =
    subst (λ (q : RangedProgram). IsRemoved q (straightened q)) (sym kept.counted)
    (is_removed r.flat flat.typed flat.sized
    (subst (λ (q : RangedProgram). IsSafe r.flat q.iterations) kept.counted kept.safe)
    (subst (λ (q : RangedProgram). q.work ≤ most_work) kept.counted kept.worked))

pub removed_counted : (r : RangedProgram) → IsFlat r.flat → IsRanged r → IsCounted (straightened r)
removed_counted r flat kept =
    subst (λ (q : RangedProgram). IsCounted (straightened q)) (sym kept.counted) (counted r.flat flat.sized)
