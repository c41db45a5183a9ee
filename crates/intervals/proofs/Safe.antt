-- What has no violation is safe, and what is safe meets no fault.
use Rattle.std.proofs.Common.{◌≡◌, ◌<◌, ◌-◌, ℕ, zero, suc, ◌==◌, nat_lt, Bool, true, false, List, [], ◌∷◌, ◌++◌}
use Rattle.std.proofs.Common.{length, map, take, replicate, Option, Some, None, option_map, slice_get, slice_index}
use Rattle.std.proofs.Common.{refl, sym, ap, ap₂, ◌∙◌, subst, arith}
use Rattle.std.proofs.lemmas.Bool.Decides.{nat_tests}
use Rattle.std.proofs.lemmas.List.{length-replicate}
use Rattle.std.proofs.lemmas.Option.{none-some, same_Some, slice_get-map}
use Rattle.intervals.specs.Below.{AreFine, AreWithin, Arg, bounded, decided, declaration_of, divided, either}
use Rattle.intervals.specs.Below.{elements_by, end_types, ending_by, ending_of, fault_at, first_fault, Fits, FixedArray}
use Rattle.intervals.specs.Below.{FlatProgram, FlatVariable, Form, given, gives, indexed, Interval, IsFine, IsResult}
use Rattle.intervals.specs.Below.{IsTypedFlat, Kind, Label, Mark, multiplied, MutableArray, outcome_of, Param}
use Rattle.intervals.specs.Below.{parameter_types, Path, path_of, Profile, Public, Secret, SingleWord, TermTree, Types}
use Rattle.intervals.specs.Below.{types_of, Values, WordType}
use Rattle.intervals.proofs.Below.{element_fits, fine_both, parameters_fit}
use Rattle.intervals.specs.Intervals.{Bounds, full_of, known}
use Rattle.intervals.specs.Loose.{IsSafe, LooselyReturns, nothing_returned, returned}
use Rattle.intervals.specs.Ranges.{bound_by, bound_of, bounds_after_all, first_bounds, range_violations}
use Rattle.intervals.specs.Ranges.{result_violations, iterations_of, violations_all}
use Rattle.intervals.proofs.Counting.{enough_all}
use Rattle.intervals.proofs.LooseIntervals.{IsIn, kind_in}
use Rattle.intervals.proofs.LooseStatements.{all_done}
use Rattle.intervals.proofs.LooseTerms.{BoundsHold, KeepsItsValue, loose_fine, none_in}
use Rattle.intervals.proofs.StrictRuns.{strict_is_loose}
use Rattle.language.specs.Typing.{is_mutable}

below : (a b : ℕ) → a < b → nat_lt a b ≡ true
below a b h = grind (arith, nat_tests)

some : (a : ℕ) → 0 < a → (a == 0) ≡ false
some a h = grind (arith, nat_tests)

no_fault_at : (iterations : List ℕ) (mark : Mark) → IsFine iterations mark → fault_at mark ≡ None
no_fault_at iterations (decided value) fine = refl
no_fault_at iterations (bounded x low high) fine = refl
no_fault_at iterations (indexed place size index) fine = rw (below index size fine) refl
no_fault_at iterations (divided place left right) fine = rw (some right fine) refl
no_fault_at iterations (multiplied left right) fine = refl

no_fault : (iterations : List ℕ) (path : Path) → AreFine iterations path → first_fault path ≡ None
no_fault iterations [] fine = refl
no_fault iterations (mark ∷ rest) fine = ap (λ o. either o (first_fault rest)) (no_fault_at iterations mark fine.0)
    ∙ no_fault iterations rest fine.1

-- a run of a safe program on arguments within its parameter types ends with its outcome
pub safe_runs_meet_no_fault : (p : FlatProgram) (iterations : List ℕ) (args : List Arg) → IsSafe p iterations
    → AreWithin p.parameters args → ending_of p args ≡ gives (outcome_of p args)
safe_runs_meet_no_fault p iterations args safe within =
    ap (λ fault. ending_by fault (outcome_of p args))
    (no_fault iterations (path_of p args) (safe args (path_of p args) within (strict_is_loose p args)))

-- Where a body begins.

nothing_known : (n x : ℕ) (i : Interval) → known (replicate n None) x ≡ Some i → ⊥
nothing_known zero x i h = none-some i h
nothing_known (suc n) zero i h = none-some i h
nothing_known (suc n) (suc x) i h = nothing_known n x i h

-- only of parameters is something known
known_parameter : (ps : List Param) (n x : ℕ) (i : Interval) → known (map bound_of ps ++ replicate n None) x ≡ Some i
    → (p : Param) × (slice_get ps x ≡ Some p) × (bound_of p ≡ Some i)
known_parameter [] n x i h = absurd (nothing_known n x i h)
known_parameter (p ∷ ps) n zero i h = (p, refl, h)
known_parameter (p ∷ ps) n (suc x) i h = known_parameter ps n x i h

bound_parts : (form : Form) (label : Label) (kind : Kind) (length : ℕ) (i : Interval)
    → bound_by form label kind ≡ Some i
    → (is_mutable form ≡ false) × (elements_by form length ≡ None) × (label ≡ Public) × (full_of kind ≡ i)
bound_parts SingleWord Public kind length i h = (refl, refl, refl, same_Some (full_of kind) i h)
bound_parts SingleWord Secret kind length i h = absurd (none-some i h)
bound_parts FixedArray label kind length i h = absurd (none-some i h)
bound_parts MutableArray label kind length i h = absurd (none-some i h)

pub get_before : {X : Type 0} (n : ℕ) (xs : List X) (x : ℕ) (y : X) → slice_get (take n xs) x ≡ Some y
    → slice_get xs x ≡ Some y
get_before zero [] x y h = h
get_before zero (z ∷ xs) x y h = absurd (none-some y h)
get_before (suc n) [] x y h = h
get_before (suc n) (z ∷ xs) zero y h = h
get_before (suc n) (z ∷ xs) (suc x) y h = get_before n xs x y h

module _ (p : FlatProgram) (typed : IsTypedFlat p) (args : List Arg) (within : AreWithin p.parameters args) where
  abbrev m : Values
  m = given p.declared args

  abbrev begun : Types
  begun = parameter_types p.profile p.parameters

  fits : Fits begun m
  fits = parameters_fit p args typed within

  kept_parameter : (x : ℕ) (i : Interval) → known (first_bounds p) x ≡ Some i → KeepsItsValue begun m x i
  kept_parameter x i h =
      let found = known_parameter p.parameters (length p.declared - length p.parameters) x i h in
      let q = found.0 in
      let parts = bound_parts q.form q.label q.kind q.length i found.2 in
      let word : WordType = record { kind = q.kind; label = q.label } in
      let there : begun.at x ≡ Some (declaration_of q) = slice_get-map declaration_of p.parameters x
      ∙ ap (option_map declaration_of) found.1 in
      record {
        word = word;
        typed = there ∙ ap₂ (λ (b : Bool) (o : Option ℕ). Some (record { word = word; mutable = b; elements = o }))
            parts.0 parts.1;
        public = parts.2;
        within = subst (λ j. IsIn j (slice_index (m x) 0)) parts.3
            (kind_in q.kind (slice_index (m x) 0)
            (element_fits q.kind (m x) 0 (fits x (declaration_of q) there).within));
      }

  pub begins : BoundsHold p.declared begun (first_bounds p) m
  begins = record {
    fits = fits;
    kept = kept_parameter;
    listed = λ x d is. get_before (length p.parameters) p.declared x d
        (ap (λ ds. slice_get ds x) typed.parameters ∙ is);
  }

-- The result.

result_fine : (declared : List FlatVariable) (iterations : List ℕ) (types : Types) (bounds : Bounds) (m : Values)
    → BoundsHold declared types bounds m
    → {profile : Profile} {value : Option TermTree} {path : Path} → LooselyReturns
    (types_of profile declared) m value path
    → (returned : Option WordType) → IsResult types returned value → result_violations declared bounds value ≡ []
    → AreFine iterations path
result_fine declared iterations types bounds m holds nothing_returned word suits none = tt
result_fine declared iterations types bounds m holds (returned c) None suits none = absurd suits
result_fine declared iterations types bounds m holds (returned c) (Some word) suits none =
    loose_fine declared types bounds m holds iterations c suits.has_type none

empty : {X : Type 0} (xs : List X) → length xs ≡ 0 → xs ≡ []
empty [] h = refl
empty (x ∷ xs) h = absurd (omega (arith, h))

-- a well-typed program without violations is safe, with the iterations that are counted for it
pub accepted_is_safe : (p : FlatProgram) → IsTypedFlat p → length (range_violations p) ≡ 0 → IsSafe p
    (iterations_of p)
accepted_is_safe p typed in_range args path within run =
    let types = parameter_types p.profile p.parameters in
    let iterations = iterations_of p in
    let start = begins p typed args within in
    let last = bounds_after_all p.declared (first_bounds p) p.body in
    let parts = none_in (violations_all p.declared (first_bounds p) p.body)
    (result_violations p.declared last p.value) (empty (range_violations p) in_range) in
    let counted = enough_all p.declared iterations p.body types Public (length p.parameters) (first_bounds p)
    (replicate (length p.declared) 0) typed.body typed.numbered (length-replicate (length p.declared) 0)
    (λ y low high. refl) in
    let done = all_done p.declared iterations p.profile {types = types} {bounds = first_bounds p} Public run.body
    typed.body start parts.0 counted in
    let back = result_fine p.declared iterations (end_types p) last run.end done.holds run.result p.returned
    typed.result parts.1 in
    subst (AreFine iterations) (sym run.whole) (fine_both iterations run.front run.back done.fine back)
