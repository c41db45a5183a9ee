-- What is known after a statement is what the variables then hold.
use Rattle.std.proofs.Common.{◌≡◌, ℕ, ◌<◌, ◌==◌, Bool, not, List, [], ◌∷◌, Option, None, Some, slice_index, sym, ap}
use Rattle.std.proofs.Common.{◌∙◌}
use Rattle.std.proofs.lemmas.Option.{same_Some}
use Rattle.optimisation.specs.Below.{after, after_all, AreTyped, counted, counter_type, FlatVariable, TermHasType}
use Rattle.optimisation.specs.Below.{Profile, StraightBlock, StraightState, StraightTree, TermTree, Types, types_of}
use Rattle.optimisation.specs.Below.{value_at, value_in, Values, with_value, WordType}
use Rattle.inline.proofs.Face.{with_value-other, with_value-same}
use Rattle.optimisation.specs.declared.constants.known.Constant.{Constant}
use Rattle.optimisation.specs.constants.private.Folding.{simple, constant, constant_of, decision}
use Rattle.optimisation.specs.constants.private.Known.{WordFacts, behind, in_loop, with_word}
use Rattle.optimisation.specs.constants.private.Simplification.{at_iteration, knowing_all, set_to}
use Rattle.optimisation.proofs.constants_lemmas.CopyLemmas.{read_value, set_by, two_variables}
use Rattle.optimisation.proofs.constants_lemmas.Held.{counter_limit, IsCounter, counted_fits, fits_after_all}
use Rattle.optimisation.proofs.constants_lemmas.KnownLemmas.{Fact, Knows, IsFree, IsTrue, word_by, same_truth, Agrees}
use Rattle.optimisation.proofs.constants_lemmas.KnownLemmas.{FactsHold}
use Rattle.optimisation.proofs.constants_lemmas.TermLemmas.{same_value}
use Rattle.optimisation.proofs.constants_lemmas.TermRules.{constant_value, decided_value}
use Rattle.optimisation.proofs.constants_lemmas.Unset.{IsUnset, behind_part, left_alone, left_alone_all, within_loop}

-- Conditions and bounds that are numbers.

module _ (types : Types) (words : WordFacts) (s : StraightState) (holds : FactsHold types words s.variables) where
  pub decided_here : {condition : TermTree} {word : WordType} → TermHasType types condition word → (b : Bool)
      → decision (simple words condition) ≡ Some b → (value_at s condition == 0) ≡ not b
  decided_here {condition = condition} has b is =
      ap (λ v. v == 0) (sym (same_value types words s.variables holds has))
      ∙ decided_value s.variables (simple words condition) b is

  pub number_here : {e : TermTree} {word : WordType} → TermHasType types e word → (c : Constant)
      → constant_of (simple words e) ≡ Some c → c.value ≡ value_at s e
  number_here {e = e} has c is =
      sym (constant_value s.variables (simple words e) c is) ∙ same_value types words s.variables holds has

-- What is noted.

-- what was known of others holds where a variable has been set
still_true : (words : WordFacts) (m : Values) (x v : ℕ) → Agrees words m → (f : Fact) → IsFree x f → Knows words f
    → IsTrue f (with_value m x (v ∷ []))
still_true words m x v agrees f free is =
    same_truth f m (with_value m x (v ∷ [])) (λ y about. with_value-other m x y (v ∷ []) (free y about)) (agrees f is)

pub noted : (words : WordFacts) (m : Values) (x v : ℕ) (word : Option Constant) → Agrees words m
    → ((c : Constant) → word ≡ Some c → v ≡ c.value)
    → Agrees (with_word words x word) (with_value m x (v ∷ []))
noted words m x v word agrees right =
    word_by words x word (λ f. IsTrue f (with_value m x (v ∷ [])))
    (λ c is. ap (λ numbers. slice_index numbers 0) (with_value-same m x (v ∷ [])) ∙ right c is)
    (still_true words m x v agrees)

-- and where it is a copy, that too
pub noted_copy : (declared : List FlatVariable) (words : WordFacts) (m : Values) (x v : ℕ) (e : TermTree)
    → Agrees words m
    → v ≡ value_in m e
    → Agrees (set_to declared words None x e) (with_value m x (v ∷ []))
noted_copy declared words m x v e agrees same =
    let here = ap (λ numbers. slice_index numbers 0) (with_value-same m x (v ∷ [])) in
    set_by declared words x e (λ f. IsTrue f (with_value m x (v ∷ [])))
    (λ c is. here ∙ (same ∙ constant_value m e c is))
    (λ y is may. here ∙ (same ∙ (read_value m e y is ∙ ap (λ numbers. slice_index numbers 0)
    (sym (with_value-other m x y (v ∷ []) (λ h. two_variables declared x y may (sym h)))))))
    (still_true words m x v agrees)

-- what was known before, of variables that a statement leaves alone
pub kept : (words behind_it : WordFacts) (statement : StraightTree) (s : StraightState) → Agrees words s.variables
    → ((f : Fact) → Knows behind_it f → Knows words f × IsUnset f statement)
    → Agrees behind_it (after s statement).variables
kept words behind_it statement s agrees known_before f is =
    let found = known_before f is in
    same_truth f s.variables (after s statement).variables (λ y about. left_alone statement f found.1 y about s)
    (agrees f found.0)

-- Where an iteration and the second arm begin, and in a loop that stays.

module _ (profile : Profile) (declared : List FlatVariable) where
  abbrev pub AllHolds : WordFacts → StraightState → Type 0
  AllHolds words s = FactsHold (types_of profile declared) words s.variables

  -- where an iteration begins, its number is known
  pub iteration_known : (words : WordFacts) (s : StraightState) (x i : ℕ) → IsCounter declared x → i < counter_limit
      → AllHolds words s → AllHolds (at_iteration x i words) (counted x i s)
  iteration_known words s x i there below holds = record {
    agrees = noted words s.variables x i (Some (constant i counter_type.kind)) holds.agrees
        (λ c is. ap (λ (d : Constant). d.value) (same_Some (constant i counter_type.kind) c is));
    fits = counted_fits profile declared x i there below s holds.fits;
  }

  pub arm_begins : (unroll_limits : List ℕ) (words : WordFacts) (accepted : StraightBlock) (s : StraightState)
      → AllHolds words s
      → AllHolds (behind (knowing_all unroll_limits declared words accepted) accepted) s
  arm_begins unroll_limits words accepted s holds =
      record {
        agrees = λ f is. holds.agrees f
            (behind_part unroll_limits declared words accepted f is).0;
        fits = holds.fits;
      }

  pub loop_begins : (words : WordFacts) (x : ℕ) (body : StraightBlock) (s : StraightState) → AllHolds words s
      → AllHolds (in_loop words x body) s
  loop_begins words x body s holds = record {
    agrees = λ f is. holds.agrees f (within_loop words x body f is).0;
    fits = holds.fits;
  }

  module _ (words : WordFacts) (x : ℕ) (body : StraightBlock) (there : IsCounter declared x) (i : ℕ)
      (t : StraightState) (below : i < counter_limit) (holds : AllHolds (in_loop words x body) t) where
    pub iteration_start : AllHolds (in_loop words x body) (counted x i t)
    iteration_start = record {
      agrees = λ f is. same_truth f t.variables (counted x i t).variables
          (λ y about. with_value-other t.variables x y (i ∷ []) ((within_loop words x body f is).1.0 y about))
          (holds.agrees f is);
      fits = counted_fits profile declared x i there below t holds.fits;
    }

    pub iteration_end : (controls : ℕ) → AreTyped profile declared controls body
        → AllHolds (in_loop words x body) (after_all (counted x i t) body)
    iteration_end controls is = record {
      agrees = λ f known. same_truth f (counted x i t).variables (after_all (counted x i t) body).variables
          (λ y about. left_alone_all body f (within_loop words x body f known).1.1 y about (counted x i t))
          (iteration_start.agrees f known);
      fits = fits_after_all profile declared controls body is (counted x i t) iteration_start.fits;
    }
