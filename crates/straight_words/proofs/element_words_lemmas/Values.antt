-- What the words hold; and an expression in which they stand in the places of elements has the value that the
-- expression has, and its path is fine where that one's is.
use Rattle.std.proofs.Common.{◌≡◌, ℕ, ◌+◌, ◌<◌, Bool, List, [], ◌∷◌, map, length, Option, None, Some, option_map}
use Rattle.std.proofs.Common.{slice_get, slice_index, refl, sym, ap, ◌∙◌}
use Rattle.std.proofs.lemmas.Option.{none-some, same_Some}
use Rattle.straight_words.specs.Below.{AllSuit, array_as, element, FlatVariable, TermHasType, IsResult, of_binary}
use Rattle.straight_words.specs.Below.{of_conversion, of_element, of_number, of_prefix, of_rotation, of_selection}
use Rattle.straight_words.specs.Below.{of_truth, of_variable, Place, Profile, TermTree, Types, Values, variable}
use Rattle.straight_words.specs.Below.{word_as, WordType}
use Rattle.straight_words.specs.declared.element_words.parts.SplitArray.{SplitArray}
use Rattle.straight_words.specs.element_words.private.Narrowing.{narrowed_at, narrowed, all_narrowed, narrowed_result}
use Rattle.straight_words.specs.element_words.private.Parts.{Parts, part_of, word_in}
use Rattle.straight_words.specs.element_words.private.Splitting.{split}
use Rattle.straight_words.specs.private.Rewriting.{instead_or}
use Rattle.straight_words.proofs.element_words_lemmas.Known.{IsKnown, is_number, use_known, before_term, before_terms}
use Rattle.straight_words.proofs.element_words_lemmas.PartLemmas.{IsBelow, IsSplitting}
use Rattle.straight_words.proofs.over_lemmas.Values.{same_path, IsAlike, AreAllAlike, IsResultAlike, prefix_alike}
use Rattle.straight_words.proofs.over_lemmas.Values.{binary_alike, rotate_alike, convert_alike, select_alike}
use Rattle.straight_words.proofs.over_lemmas.Values.{element_alike, all_values_alike}

-- an array's elements
pub record IsHeldIn (part : SplitArray) (numbers : List ℕ) (k : Values) : Type 0 where
  pub count : length numbers ≡ part.size
  pub each : (i : ℕ) → i < part.size → k (part.base + i) ≡ slice_index numbers i ∷ []

-- of the variables in scope those that stay hold the same, and the words of an array its elements
pub record AreAlike (at : ℕ → Option FlatVariable) (parts : Parts) (m k : Values) : Type 0 where
  pub plain : (y : ℕ) (d : FlatVariable) → at y ≡ Some d → part_of parts y ≡ None → k y ≡ m y
  pub held : (y : ℕ) (d : FlatVariable) (part : SplitArray) → at y ≡ Some d → part_of parts y ≡ Some part
      → IsHeldIn part (m y) k

module _ (declared new : List FlatVariable) (parts : Parts) (is_splitting : IsSplitting declared new parts) where
  whole_by : (y : ℕ) (word : WordType) (mutable : Bool) → slice_get declared y ≡ Some (word_as word mutable)
      → (o : Option SplitArray) → part_of parts y ≡ o → o ≡ None
  whole_by y word mutable there None same = refl
  whole_by y word mutable there (Some part) same =
      let array = is_splitting.arrays y part same in
      let one = same_Some (word_as word mutable) array.listed (sym there ∙ array.known) in
      absurd (none-some part.size (ap (λ (d : FlatVariable). d.elements) one ∙ array.size))

  -- a word is no array that becomes words
  pub stays_whole : (y : ℕ) (word : WordType) (mutable : Bool) → slice_get declared y ≡ Some (word_as word mutable)
      → part_of parts y ≡ None
  stays_whole y word mutable there = whole_by y word mutable there (part_of parts y) refl

  -- an array becomes as many words as it has elements
  pub part_size : (y : ℕ) (word : WordType) (mutable : Bool) (size : ℕ) (part : SplitArray)
      → slice_get declared y ≡ Some (array_as word mutable size) → part_of parts y ≡ Some part → part.size ≡ size
  part_size y word mutable size part there same =
      let array = is_splitting.arrays y part same in
      let one = same_Some array.listed (array_as word mutable size) (sym array.known ∙ there) in
      same_Some part.size size (sym array.size ∙ ap (λ (d : FlatVariable). d.elements) one)

  -- Expressions over the variables in scope.

  module _ (most : List ℕ) (profile : Profile) (at : ℕ → Option FlatVariable)
      (within : (y : ℕ) (d : FlatVariable) → at y ≡ Some d → slice_get declared y ≡ Some d) where
    abbrev types : Types
    types = record { profile = profile; at = at }

    abbrev pub Stands : TermTree → Type 0
    Stands e = (m k : Values) → AreAlike at parts m k → IsAlike most m k e (split parts e)

    abbrev pub AllStand : List TermTree → Type 0
    AllStand [] = Unit {0}
    AllStand (e ∷ es) = Stands e × AllStand es

    element_stands : (place : Place) (x size : ℕ) (index : TermTree) (d : FlatVariable) → at x ≡ Some d
        → (o : Option SplitArray) → part_of parts x ≡ o → IsKnown o index → {m k : Values} → AreAlike at parts m k
        → IsAlike most m k index (split parts index)
        → IsAlike most m k (element place x size index)
        (instead_or (option_map variable (word_in o index)) (element place x size (split parts index)))
    element_stands place x size index d there None is used alike inner = element_alike (alike.plain x d there is) inner
    element_stands place x size index d there (Some part) is (is_number {value = i} below found) alike inner =
        rw found
        (record {
          value = ap (λ numbers. slice_index numbers 0) ((alike.held x d part there is).each i below);
          path = record { fine = λ fine. tt };
        })

    pub stands : {e : TermTree} {word : WordType} → TermHasType types e word → (before : Parts)
        → IsBelow parts (narrowed before e) → Stands e
    stands (of_number below) before h m k alike = record { value = refl; path = same_path most }
    stands of_truth before h m k alike = record { value = refl; path = same_path most }
    stands (of_variable {x = x} {word = word} {mutable = mutable} there) before h m k alike =
        record {
          value = ap (λ numbers. slice_index numbers 0) (alike.plain x (word_as word mutable) there
              (stays_whole x word mutable (within x (word_as word mutable) there)));
          path = same_path most;
        }
    stands (of_prefix has may even) before h m k alike = prefix_alike (stands has before h m k alike)
    stands (of_binary {left = left} {right = right} has more makes even) before h m k alike =
        binary_alike (stands has before (before_term parts right (narrowed before left) h) m k alike)
        (stands more (narrowed before left) h m k alike)
    stands (of_rotation has numeric low high even) before h m k alike = rotate_alike (stands has before h m k alike)
    stands (of_conversion has numeric) before h m k alike = convert_alike (stands has before h m k alike)
    stands (of_selection {condition = condition} {accepted = accepted} {otherwise = otherwise} chooser has more) before
        h m k alike =
        let second = before_term parts otherwise (narrowed (narrowed before condition) accepted) h in
        let one = before_term parts accepted (narrowed before condition) second in
        select_alike (stands chooser before one m k alike) (stands has (narrowed before condition) second m k alike)
        (stands more (narrowed (narrowed before condition) accepted) h m k alike)
    stands (of_element {place = place} {x = x} {size = size} {index = index} {word = word} {mutable = mutable}
        there has) before h m k alike =
        element_stands place x size index (array_as word mutable size) there (part_of parts x) refl
        (use_known parts before x index (before_term parts index (narrowed_at before x index) h)).1 alike
        (stands has (narrowed_at before x index) h m k alike)

    pub all_stand : (word : WordType) (es : List TermTree) → AllSuit types word es → (before : Parts)
        → IsBelow parts (all_narrowed before es) → AllStand es
    all_stand word [] suit before h = tt
    all_stand word (e ∷ es) suit before h = (
      stands suit.0.has_type before (before_terms parts es (narrowed before e) h),
      all_stand word es suit.1 (narrowed before e) h,
    )

    pub all_alike : (es : List TermTree) → AllStand es → {m k : Values} → AreAlike at parts m k
        → AreAllAlike most m k es (map (split parts) es)
    all_alike [] all alike = record { values = refl; filled = λ size. refl; path = same_path most }
    all_alike (e ∷ es) all {m} {k} alike = all_values_alike (all.0 m k alike) (all_alike es all.1 alike)

    pub result_alike : (returned : Option WordType) (value : Option TermTree) → IsResult types returned value
        → (before : Parts) → IsBelow parts (narrowed_result before value) → {m k : Values} → AreAlike at parts m k
        → IsResultAlike most m k value (option_map (split parts) value)
    result_alike None None is before h alike = record { value = refl; path = same_path most }
    result_alike (Some word) (Some value) is before h {m} {k} alike =
        let a = stands is.has_type before h m k alike in record { value = ap Some a.value; path = a.path }
    result_alike returned value is before h alike = absurd is
