-- The words of a new array get its first values, which do not go by what the array held.
use Rattle.std.proofs.Common.{◌≡◌, ℕ, zero, suc, ◌+◌, ◌<◌, ◌≤◌, List, [], ◌∷◌, map, drop, length, Some}
use Rattle.std.proofs.Common.{slice_get, slice_index, refl, sym, ap, ◌∙◌, arith}
use Rattle.std.proofs.lemmas.List.{length-map, length-replicate}
use Rattle.straight_words.specs.Below.{after_all, elements, FlatVariable, HasCount, Kind, path_along, path_in_all}
use Rattle.straight_words.specs.Below.{Profile, StraightBlock, StraightState, TermTree, value_at, value_in, Values}
use Rattle.straight_words.specs.Below.{with_value, with_variable}
use Rattle.inline.proofs.Face.{with_value-other, with_value-same}
use Rattle.straight_words.specs.declared.element_words.parts.SplitArray.{SplitArray}
use Rattle.straight_words.specs.element_words.private.Parts.{Parts, part_of}
use Rattle.straight_words.specs.element_words.private.Splitting.{split, first_value, given_words}
use Rattle.straight_words.proofs.element_words_lemmas.PartLemmas.{IsSplitting}
use Rattle.straight_words.proofs.element_words_lemmas.Values.{AreAlike, AllStand}
use Rattle.straight_words.proofs.element_words_lemmas.Held.{no_word, zeros_at}
use Rattle.straight_words.proofs.over_lemmas.Variables.{but, but_apart, but_within}
use Rattle.straight_words.proofs.over_lemmas.Values.{IsNoWorse, both}

-- The elements of a new array.

pub elements_count : (m : Values) (size : ℕ) (values : List TermTree) → HasCount size values
    → length (elements m size values) ≡ size
elements_count m size [] count = length-replicate size 0
elements_count m size (e ∷ es) count = length-map (e ∷ es) (value_in m) ∙ count

pub elements_at : (m : Values) (size i : ℕ) (values : List TermTree)
    → slice_index (map (value_in m) values) i ≡ slice_index (elements m size values) i
elements_at m size i [] = sym (zeros_at size i)
elements_at m size i (e ∷ es) = refl

pub but_alike : (declared : List FlatVariable) (parts : Parts) (x : ℕ) (m k : Values)
    → AreAlike (λ y. slice_get declared y) parts m k → AreAlike (but declared x) parts m k
but_alike declared parts x m k alike = record {
  plain = λ y d there stays. alike.plain y d (but_within declared x y d there) stays;
  held = λ y d part there is. alike.held y d part (but_within declared x y d there) is;
}

pub words_outside : (n base : ℕ) (kind : Kind) (values : List TermTree) (t : StraightState) (z : ℕ)
    → ((i : ℕ) → i < n → z ≡ base + i → ⊥)
    → (after_all t (given_words base n kind values)).variables z ≡ t.variables z
words_outside zero base kind values t z apart = refl
words_outside (suc n) base kind values t z apart =
    let v = value_at t (first_value kind values) ∷ [] in
    words_outside n (base + 1) kind (drop 1 values) (with_variable t base v) z
    (λ i below same. apart (i + 1) (omega arith) (omega arith))
    ∙ with_value-other t.variables base z v (λ same. apart 0 (omega arith) (omega arith))

pub words_controls : (n base : ℕ) (kind : Kind) (values : List TermTree) (t : StraightState)
    → (after_all t (given_words base n kind values)).controls ≡ t.controls
words_controls zero base kind values t = refl
words_controls (suc n) base kind values t =
    words_controls n (base + 1) kind (drop 1 values)
    (with_variable t base (value_at t (first_value kind values) ∷ []))

module _ (declared new : List FlatVariable) (parts : Parts) (is_splitting : IsSplitting declared new parts)
    (x : ℕ) (part : SplitArray) (is : part_of parts x ≡ Some part) (m : Values) where
  -- setting a word of the array leaves the other variables
  undisturbed : (k : Values) (base i : ℕ) (v : List ℕ) → AreAlike (but declared x) parts m k → base ≡ part.base + i
      → i < part.size → AreAlike (but declared x) parts m (with_value k base v)
  undisturbed k base i v alike at below = record {
    plain = λ y d there stays.
        with_value-other k base y v (λ same. no_word declared new parts is_splitting (but declared x)
        (but_within declared x) y x d part i there is (same ∙ at))
        ∙ alike.plain y d there stays;
    held = λ y d other there also.
        let old = alike.held y d other there also in
        record {
          count = old.count;
          each = λ j inside.
              with_value-other k base (other.base + j) v (λ same. but_apart declared x y d there
              (is_splitting.apart y x other part j i also is inside below (same ∙ at)))
              ∙ old.each j inside;
        };
  }

  -- so many words that get values hold them, and the path is fine where the values' path is
  pub record ElementsHold (most : List ℕ) (values : List TermTree) (n base : ℕ) (t : StraightState)
      (code : StraightBlock)
      : Type 0 where
    pub each : (i z : ℕ) → i < n → z ≡ base + i
        → (after_all t code).variables z ≡ slice_index (map (value_in m) values) i ∷ []
    pub path : IsNoWorse most (path_in_all m values) (path_along t code)

  -- the first word, and those behind it
  first_given : (n base : ℕ) (kind : Kind) (es : List TermTree) (t : StraightState) (v w : ℕ) (numbers : List ℕ)
      → w ≡ v
      → ((i z : ℕ) → i < n → z ≡ base + 1 + i
      → (after_all (with_variable t base (w ∷ [])) (given_words (base + 1) n kind es)).variables z
      ≡ slice_index numbers i ∷ [])
      → (i z : ℕ) → i < suc n → z ≡ base + i
      → (after_all (with_variable t base (w ∷ [])) (given_words (base + 1) n kind es)).variables z
      ≡ slice_index (v ∷ numbers) i ∷ []
  first_given n base kind es t v w numbers same rest zero z below place =
      let at : z ≡ base = omega arith in
      rw at
      (words_outside n (base + 1) kind es (with_variable t base (w ∷ [])) base (λ i inside equal. omega arith)
      ∙ (with_value-same t.variables base (w ∷ []) ∙ ap (λ n. n ∷ []) same))
  first_given n base kind es t v w numbers same rest (suc i) z below place =
      rest i z (omega arith) (omega arith)

  pub words_given : (most : List ℕ) (profile : Profile) (values : List TermTree)
      → AllStand declared new parts is_splitting most profile (but declared x) (but_within declared x) values
      → (n base : ℕ) (kind : Kind) (t : StraightState)
      → AreAlike (but declared x) parts m t.variables → (o : ℕ) → base ≡ part.base + o → o + n ≤ part.size
      → ElementsHold most values n base t (given_words base n kind (map (split parts) values))
  words_given most profile values all zero base kind t alike o at room = record {
    each = λ i z below place. absurd (omega arith);
    path = record { fine = λ fine. tt };
  }
  words_given most profile [] all (suc n) base kind t alike o at room =
      let rest = words_given most profile [] all n (base + 1) kind (with_variable t base (0 ∷ []))
      (undisturbed t.variables base o (0 ∷ []) alike at (omega arith)) (o + 1) (omega arith)
      (omega arith) in
      record {
        each = λ i z below place.
            first_given n base kind [] t 0 0 [] refl rest.each i z below place ∙ ap (λ n. n ∷ []) (zeros_at 1 i);
        path = record { fine = rest.path.fine };
      }
  words_given most profile (e ∷ values) all (suc n) base kind t alike o at room =
      let f = split parts e in
      let a = all.0 m t.variables alike in
      let rest = words_given most profile values all.1 n (base + 1) kind (with_variable t base (value_at t f ∷ []))
      (undisturbed t.variables base o (value_at t f ∷ []) alike at (omega arith)) (o + 1) (omega arith)
      (omega arith) in
      record {
        each = first_given n base kind (map (split parts) values) t _ (value_at t f) (map (value_in m) values) a.value
            rest.each;
        path = both most a.path rest.path;
      }
