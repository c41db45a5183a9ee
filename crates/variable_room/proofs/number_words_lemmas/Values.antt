-- An expression in which numbers are words that hold them has the value that the expression has, and its path is fine
-- where that one's is.
use Rattle.std.proofs.Common.{◌≡◌, ℕ, ◌<◌, ◌==◌, Bool, true, false, if◌then◌else◌, List, [], ◌∷◌, map}
use Rattle.std.proofs.Common.{Option, None, Some, option_map, slice_index, refl, ap, ◌∙◌}
use Rattle.std.proofs.lemmas.Bool.{and_parts, eqb-true}
use Rattle.variable_room.specs.Below.{AllSuit, array_as, FlatVariable, IsResult, Kind, number, of_binary, of_conversion}
use Rattle.variable_room.specs.Below.{of_element, of_number, of_prefix, of_rotation, of_selection, of_truth, of_variable}
use Rattle.variable_room.specs.Below.{same_kind, TermHasType, TermTree, Types, Values, variable, word_as, WordType}
use Rattle.variable_room.specs.declared.number_words.words.NumberWord.{NumberWord}
use Rattle.variable_room.specs.number_words.private.Uses.{same_number}
use Rattle.variable_room.specs.number_words.private.Wording.{word_of, worded}
use Rattle.straight_words.specs.private.Rewriting.{instead_or}
use Rattle.variable_room.proofs.number_words_lemmas.Held.{HoldTheirs}
use Rattle.straight_words.proofs.over_lemmas.Values.{same_path, IsAlike, AreAllAlike, IsResultAlike, prefix_alike}
use Rattle.straight_words.proofs.over_lemmas.Values.{binary_alike, rotate_alike, convert_alike, select_alike}
use Rattle.straight_words.proofs.over_lemmas.Values.{element_alike, all_values_alike}

-- so many variables hold the same, and words behind them their numbers
pub record AreAlike (n : ℕ) (words : List NumberWord) (m k : Values) : Type 0 where
  pub same : (y : ℕ) → y < n → k y ≡ m y
  pub hold : HoldTheirs words k

module _ (most : List ℕ) where
  pub number_alike : (words : List NumberWord) (value : ℕ) (kind : Kind) (m k : Values) → HoldTheirs words k
      → IsAlike most m k (number value kind) (worded words (number value kind))
  number_alike [] value kind m k hold = record { value = refl; path = same_path most }
  number_alike (word ∷ words) value kind m k hold =
      by_number (same_number word.number (record { value = value; kind = kind })) refl
      (number_alike words value kind m k hold.1)
    where
      by_number : (b : Bool) → same_number word.number (record { value = value; kind = kind }) ≡ b
          → IsAlike most m k (number value kind) (worded words (number value kind))
          → IsAlike most m k (number value kind)
          (instead_or
          (option_map variable
          (if b then Some word.variable else word_of (record { value = value; kind = kind }) words))
          (number value kind))
      by_number true is other =
          let parts = and_parts (word.number.value == value) (same_kind word.number.kind kind) is in
          record {
            value = ap (λ numbers. slice_index numbers 0) hold.0 ∙ eqb-true word.number.value value parts.0;
            path = same_path most;
          }
      by_number false is other = other

module _ (n : ℕ) (words : List NumberWord) (most : List ℕ) (types : Types)
    (within : (y : ℕ) (d : FlatVariable) → types.at y ≡ Some d → y < n) where
  pub stands : {e : TermTree} {word : WordType} → TermHasType types e word → (m k : Values)
      → AreAlike n words m k → IsAlike most m k e (worded words e)
  stands (of_number {value = value} {kind = kind} below) m k alike =
      number_alike most words value kind m k alike.hold
  stands of_truth m k alike = record { value = refl; path = same_path most }
  stands (of_variable {x = x} {word = word} {mutable = mutable} there) m k alike =
      record {
        value = ap (λ numbers. slice_index numbers 0) (alike.same x (within x (word_as word mutable) there));
        path = same_path most;
      }
  stands (of_prefix has may even) m k alike = prefix_alike (stands has m k alike)
  stands (of_binary has more makes even) m k alike = binary_alike (stands has m k alike) (stands more m k alike)
  stands (of_rotation has numeric low high even) m k alike = rotate_alike (stands has m k alike)
  stands (of_conversion has numeric) m k alike = convert_alike (stands has m k alike)
  stands (of_selection chooser has more) m k alike =
      select_alike (stands chooser m k alike) (stands has m k alike) (stands more m k alike)
  stands (of_element {x = x} {size = size} {word = word} {mutable = mutable} there has) m k alike =
      element_alike (alike.same x (within x (array_as word mutable size) there)) (stands has m k alike)

  pub all_stand : (word : WordType) (es : List TermTree) → AllSuit types word es → {m k : Values}
      → AreAlike n words m k → AreAllAlike most m k es (map (worded words) es)
  all_stand word [] suit alike = record { values = refl; filled = λ size. refl; path = same_path most }
  all_stand word (e ∷ es) suit {m} {k} alike =
      all_values_alike (stands suit.0.has_type m k alike) (all_stand word es suit.1 alike)

  pub result_stands : (returned : Option WordType) (value : Option TermTree) → IsResult types returned value
      → {m k : Values} → AreAlike n words m k → IsResultAlike most m k value (option_map (worded words) value)
  result_stands None None is alike = record { value = refl; path = same_path most }
  result_stands (Some word) (Some value) is {m} {k} alike =
      let a = stands is.has_type m k alike in record { value = ap Some a.value; path = a.path }
  result_stands returned value is alike = absurd is
