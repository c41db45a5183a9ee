-- Well-typed straight code keeps in each variable what it is declared as.
use Rattle.std.proofs.Common.{◌≡◌, ℕ, ◌-◌, ◌^◌, ◌<◌, ◌==◌, false, List, []}
use Rattle.std.proofs.Common.{◌∷◌, map, replicate, All, slice_get, slice_set, refl, Some, ◌∙◌, arith}
use Rattle.std.proofs.lemmas.Bool.{cond_both}
use Rattle.std.proofs.lemmas.List.{length-set, length-replicate, length-map}
use Rattle.std.proofs.lemmas.List.Elements.{All-nil, All-cons, All-set, All-replicate}
use Rattle.optimisation.specs.Below.{after, after_all, AllSuit, AreTyped, array, array_as, bits_of, branch, counted}
use Rattle.optimisation.specs.Below.{counter_type, first, Fits, FlatVariable, holds, IsTyped, IsWithinKind, nothing}
use Rattle.optimisation.specs.Below.{Profile, put, repeats, set, StraightBlock, StraightState, StraightTree, take}
use Rattle.optimisation.specs.Below.{TermTree, Types, types_but, types_of, value_at, value_in, Values, with_element}
use Rattle.optimisation.specs.Below.{with_variable, word_as, WordType}
use Rattle.inline.proofs.Face.{iterations_keep}
use Rattle.inline.proofs.Fitting.{value_fits, suited_fits, some_bit}
use Rattle.inline.proofs.FittingBodies.{fits_assigned, one_held}
use Rattle.straight_words.proofs.over_lemmas.Variables.{but_within}

-- first values of an array
all_held : (types : Types) (m : Values) → Fits types m → (word : WordType) (es : List TermTree)
    → AllSuit types word es → All (IsWithinKind word.kind) (map (value_in m) es)
all_held types m fits word [] suit = All-nil (IsWithinKind word.kind)
all_held types m fits word (e ∷ es) suit = All-cons (IsWithinKind word.kind) (value_in m e) (map (value_in m) es)
    (suited_fits types m fits word e suit.0) (all_held types m fits word es suit.1)

-- all numbers of a loop are below this
abbrev pub counter_limit : ℕ
counter_limit = 2 ^ bits_of counter_type.kind

-- a counter
abbrev pub IsCounter : List FlatVariable → ℕ → Type 0
IsCounter declared x = slice_get declared x ≡ Some (word_as counter_type false)

module _ (profile : Profile) (declared : List FlatVariable) where
  abbrev types : Types
  types = types_of profile declared

  pub fewer_fit : (x : ℕ) (m : Values) → Fits types m → Fits (types_but profile declared x) m
  fewer_fit x m fits y d is = fits y d (but_within declared x y d is)

  -- where an iteration begins
  pub counted_fits : (x i : ℕ) → IsCounter declared x → i < counter_limit → (s : StraightState)
      → Fits types s.variables → Fits types (counted x i s).variables
  counted_fits x i there below s fits =
      fits_assigned types s.variables x (i ∷ []) (word_as counter_type false) there
      (one_held counter_type false i below) fits

  module _ (controls : ℕ) where
    mutual
      pub fits_after : (statement : StraightTree) → IsTyped profile declared controls statement
          → (s : StraightState) → Fits types s.variables → Fits types (after s statement).variables
      fits_after (set within x value) is s fits =
          let v = value_at s value in
          cond_both (holds s within) (with_variable s x (v ∷ [])) s (λ (t : StraightState). Fits types t.variables)
          (λ sets. fits_assigned types s.variables x (v ∷ []) (word_as is.1.word is.1.mutable) is.1.known
          (one_held is.1.word is.1.mutable v (suited_fits types s.variables fits is.1.word value is.1.suits)) fits)
          (λ keeps. fits)
      fits_after (array x size []) is s fits =
          fits_assigned types s.variables x (replicate size 0) (array_as is.word is.mutable size) is.known
          (record {
            count = length-replicate size 0;
            within = All-replicate (IsWithinKind is.word.kind) size 0 (some_bit is.word.kind);
          }) fits
      fits_after (array x size (e ∷ es)) is s fits =
          fits_assigned types s.variables x (map (value_at s) (e ∷ es)) (array_as is.word is.mutable size) is.known
          (record {
            count = length-map (e ∷ es) (value_at s) ∙ is.count;
            within = all_held (types_but profile declared x) s.variables (fewer_fit x s.variables fits) is.word
                (e ∷ es) is.suit;
          }) fits
      fits_after (put within place x size index value) is s fits =
          let v = value_at s value in
          let own = array_as is.1.word is.1.mutable size in
          let old = fits x own is.1.known in
          cond_both (holds s within) (with_element s x (value_at s index) v) s
          (λ (t : StraightState). Fits types t.variables)
          (λ sets. fits_assigned types s.variables x (slice_set (s.variables x) (value_at s index) v) own is.1.known
          (record {
            count = length-set (s.variables x) (value_at s index) v ∙ old.count;
            within = All-set (IsWithinKind is.1.word.kind) (s.variables x) (value_at s index) v
                (suited_fits types s.variables fits is.1.word value is.1.suits) old.within;
          }) fits)
          (λ keeps. fits)
      fits_after (take control within condition) is s fits = fits
      fits_after (branch condition accepted otherwise) is s fits =
          cond_both (value_at s condition == 0) (after_all s otherwise) (after_all s accepted)
          (λ (t : StraightState). Fits types t.variables) (λ none. fits_after_all otherwise is.2 s fits)
          (λ some. fits_after_all accepted is.1 s fits)
      fits_after (repeats x low high body) is s fits =
          iterations_keep (λ (t : StraightState). Fits types t.variables) (λ i t. after_all (counted x i t) body)
          (value_at s high)
          (λ i t below held. fits_after_all body is.3 (counted x i t) (counted_fits x i is.2
          (omega (arith, value_fits types s.variables fits is.1)) t held))
          (value_at s high - value_at s low) (value_at s low) s refl fits

      pub fits_after_all : (body : StraightBlock) → AreTyped profile declared controls body → (s : StraightState)
          → Fits types s.variables → Fits types (after_all s body).variables
      fits_after_all nothing is s fits = fits
      fits_after_all (first statement rest) is s fits =
          fits_after_all rest is.1 (after s statement) (fits_after statement is.0 s fits)
