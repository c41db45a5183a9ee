-- An expression in which a counter is so much more than the base of its group has the value that the expression has,
-- and its path is fine where that one's is.
use Rattle.std.proofs.Common.{◌≡◌, ℕ, ◌+◌, ◌^◌, ◌≤◌, ◌<◌, ◌==◌, Bool, true, false, if◌then◌else◌, List, [], ◌∷◌, length}
use Rattle.std.proofs.Common.{map, Option, None, Some, option_map, slice_get, slice_index, refl, sym, ap, ◌∙◌, arith}
use Rattle.std.proofs.lemmas.Bool.{eqb-false, eqb-true}
use Rattle.std.proofs.lemmas.Option.{none-some, same_Some, slice_get_within}
use Rattle.optimisation.specs.Below.{AllSuit, array_as, counter_type, FlatVariable, IsResult, of_binary, of_conversion}
use Rattle.optimisation.specs.Below.{of_element, of_number, of_prefix, of_rotation, of_selection, of_truth, of_variable}
use Rattle.optimisation.specs.Below.{TermHasType, TermTree, Types, Values, variable, word_as, WordType}
use Rattle.optimisation.specs.declared.iteration_groups.terms.Shift.{Shift}
use Rattle.optimisation.specs.iteration_groups.private.Grouping.{counter_at, shifted, variable_at}
use Rattle.straight_words.proofs.over_lemmas.Values.{same_path, IsAlike, AreAllAlike, IsResultAlike, prefix_alike}
use Rattle.straight_words.proofs.over_lemmas.Values.{binary_alike, rotate_alike, convert_alike, select_alike}
use Rattle.straight_words.proofs.over_lemmas.Values.{element_alike, all_values_alike}

-- a counter of a group is a word, the base lies behind all variables, and the number of the iteration is a word's
pub record IsPlace (declared : List FlatVariable) (shift : Shift) (w : ℕ) : Type 0 where
  pub counter : slice_get declared shift.counter ≡ Some (word_as counter_type false)
  pub base : length declared ≤ shift.base
  pub low : w + shift.offset < 2 ^ 32

abbrev pub IsPlaced : List FlatVariable → Option Shift → ℕ → Type 0
IsPlaced declared None w = Unit {0}
IsPlaced declared (Some shift) w = IsPlace declared shift w

-- a variable that is not the counter of a group
abbrev pub IsApart : Option Shift → ℕ → Type 0
IsApart None y = Unit {0}
IsApart (Some shift) y = y ≡ shift.counter → ⊥

-- the base of a group holds a number, and the counter held so much more
abbrev pub Holds : Option Shift → ℕ → Values → Values → Type 0
Holds None w m k = Unit {0}
Holds (Some shift) w m k = (k shift.base ≡ w ∷ []) × (m shift.counter ≡ (w + shift.offset) ∷ [])

-- so many variables hold the same but for a counter, and the base holds this number
pub record AreAlike (n : ℕ) (shift : Option Shift) (w : ℕ) (m k : Values) : Type 0 where
  pub same : (y : ℕ) → y < n → IsApart shift y → k y ≡ m y
  pub hold : Holds shift w m k

-- an array is no counter
pub array_apart : (declared : List FlatVariable) (shift : Option Shift) (w x size : ℕ) (word : WordType)
    (mutable : Bool) → IsPlaced declared shift w → slice_get declared x ≡ Some (array_as word mutable size)
    → IsApart shift x
array_apart declared None w x size word mutable placed there = tt
array_apart declared (Some shift) w x size word mutable placed there = λ same.
    let one : slice_get declared shift.counter ≡ Some (array_as word mutable size) = rw (← same) there in
    none-some size (ap (λ (d : FlatVariable). d.elements)
    (same_Some (word_as counter_type false) (array_as word mutable size) (sym placed.counter ∙ one)))

module _ (declared : List FlatVariable) (most : List ℕ) where
  variable_stands : (shift : Option Shift) (w : ℕ) → IsPlaced declared shift w → (x : ℕ) → x < length declared
      → (m k : Values) → AreAlike (length declared) shift w m k → IsAlike most m k (variable x) (variable_at shift x)
  variable_stands None w placed x below m k alike =
      record { value = ap (λ numbers. slice_index numbers 0) (alike.same x below tt); path = same_path most }
  variable_stands (Some shift) w placed x below m k alike = by_counter (shift.counter == x) refl
    where
      by_counter : (b : Bool) → (shift.counter == x) ≡ b
          → IsAlike most m k (variable x) (if b then counter_at shift else variable x)
      by_counter true is =
          let base : slice_index (k shift.base) 0 ≡ w = ap (λ numbers. slice_index numbers 0) alike.hold.0 in
          let counter : slice_index (m x) 0 ≡ w + shift.offset =
          ap (λ y. slice_index (m y) 0) (sym (eqb-true shift.counter x is))
          ∙ ap (λ numbers. slice_index numbers 0) alike.hold.1 in
          record { value = omega (arith, base, counter, placed.low); path = same_path most }
      by_counter false is = record {
        value = ap (λ numbers. slice_index numbers 0)
            (alike.same x below (λ same. eqb-false shift.counter x is (sym same)));
        path = same_path most;
      }

  module _ (shift : Option Shift) (w : ℕ) (placed : IsPlaced declared shift w) (types : Types)
      (listed : (y : ℕ) (d : FlatVariable) → types.at y ≡ Some d → slice_get declared y ≡ Some d) where
    pub stands : {e : TermTree} {word : WordType} → TermHasType types e word → (m k : Values)
        → AreAlike (length declared) shift w m k → IsAlike most m k e (shifted shift e)
    stands (of_number below) m k alike = record { value = refl; path = same_path most }
    stands of_truth m k alike = record { value = refl; path = same_path most }
    stands (of_variable {x = x} {word = word} {mutable = mutable} there) m k alike =
        let d = word_as word mutable in
        variable_stands shift w placed x (slice_get_within declared x d (listed x d there)) m k alike
    stands (of_prefix has may even) m k alike = prefix_alike (stands has m k alike)
    stands (of_binary has more makes even) m k alike = binary_alike (stands has m k alike) (stands more m k alike)
    stands (of_rotation has numeric low high even) m k alike = rotate_alike (stands has m k alike)
    stands (of_conversion has numeric) m k alike = convert_alike (stands has m k alike)
    stands (of_selection chooser has more) m k alike =
        select_alike (stands chooser m k alike) (stands has m k alike) (stands more m k alike)
    stands (of_element {x = x} {size = size} {word = word} {mutable = mutable} there has) m k alike =
        let d = array_as word mutable size in
        let own = listed x d there in
        element_alike (alike.same x (slice_get_within declared x d own)
        (array_apart declared shift w x size word mutable placed own)) (stands has m k alike)

    pub all_stand : (word : WordType) (es : List TermTree) → AllSuit types word es → {m k : Values}
        → AreAlike (length declared) shift w m k → AreAllAlike most m k es (map (shifted shift) es)
    all_stand word [] suit alike = record { values = refl; filled = λ size. refl; path = same_path most }
    all_stand word (e ∷ es) suit {m} {k} alike =
        all_values_alike (stands suit.0.has_type m k alike) (all_stand word es suit.1 alike)

    pub result_stands : (returned : Option WordType) (value : Option TermTree) → IsResult types returned value
        → {m k : Values} → AreAlike (length declared) shift w m k
        → IsResultAlike most m k value (option_map (shifted shift) value)
    result_stands None None is alike = record { value = refl; path = same_path most }
    result_stands (Some word) (Some value) is {m} {k} alike =
        let a = stands is.has_type m k alike in record { value = ap Some a.value; path = a.path }
    result_stands returned value is alike = absurd is
