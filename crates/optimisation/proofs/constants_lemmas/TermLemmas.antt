-- A simpler expression has the value that the expression has, and its path is fine where that one's is.
use Rattle.std.proofs.Common.{◌≡◌, ℕ, List, [], ◌∷◌, map, slice_index, Option, None, Some, option_map, refl, sym, ap}
use Rattle.std.proofs.Common.{◌∙◌, subst}
use Rattle.inline.proofs.Fitting.{value_fits}
use Rattle.optimisation.specs.Below.{AllSuit, TermHasType, IsResult, IsWithinKind, of_binary, of_conversion, of_element}
use Rattle.optimisation.specs.Below.{of_number, of_prefix, of_rotation, of_selection, of_truth, of_variable, TermSuits}
use Rattle.optimisation.specs.Below.{TermTree, Types, value_in, Values, variable, WordType}
use Rattle.optimisation.specs.declared.constants.known.Constant.{Constant}
use Rattle.optimisation.specs.constants.private.Folding.{known_or, simple}
use Rattle.optimisation.specs.constants.private.Known.{WordFacts, known, source_in}
use Rattle.optimisation.proofs.constants_lemmas.Bounded.{negated_fits}
use Rattle.optimisation.proofs.constants_lemmas.KnownLemmas.{FactsHold, IsReadAs, as_itself, as_source, copy, read_as}
use Rattle.optimisation.proofs.constants_lemmas.KnownLemmas.{valued}
use Rattle.optimisation.proofs.constants_lemmas.TermRules.{MayStand, behind, prefixed_becomes, rotated_becomes}
use Rattle.optimisation.proofs.constants_lemmas.TermRules.{converted_becomes, operated_becomes, chosen_becomes}
use Rattle.straight_words.proofs.over_lemmas.Values.{same_path, IsAlike, AreAllAlike, IsResultAlike, prefix_alike}
use Rattle.straight_words.proofs.over_lemmas.Values.{binary_alike, rotate_alike, convert_alike, select_alike}
use Rattle.straight_words.proofs.over_lemmas.Values.{element_alike, all_values_alike}

module _ (most : List ℕ) (types : Types) (words : WordFacts) (m : Values) (holds : FactsHold types words m) where
  -- a copy has its source's value
  source_value : (x y : ℕ) → IsReadAs words.copies x y → slice_index (m y) 0 ≡ slice_index (m x) 0
  source_value x y as_itself = refl
  source_value x y (as_source c copied is) =
      sym (holds.agrees (copy c) copied) ∙ ap (λ z. slice_index (m z) 0) is

  variable_stands : (x : ℕ) (o : Option Constant) → known words x ≡ o
      → MayStand most m (variable x) (known_or o (variable (source_in words.copies x)))
  variable_stands x None is = record {
    alike = record {
      value = source_value x (source_in words.copies x) (read_as words.copies x);
      path = same_path most;
    };
    bounded = tt;
  }
  variable_stands x (Some c) is = record {
    alike = record { value = sym (holds.agrees (valued x c) is); path = record { fine = λ fine. tt } };
    bounded = tt;
  }

  -- a simple operand's value is within the operand's kind
  operand_fits : {e f : TermTree} {word : WordType} → TermHasType types e word → IsAlike most m m e f
      → IsWithinKind word.kind (value_in m f)
  operand_fits {word = word} has a = subst (IsWithinKind word.kind) (sym a.value) (value_fits types m holds.fits has)

  stands : {e : TermTree} {word : WordType} → TermHasType types e word → MayStand most m e (simple words e)
  stands (of_number below) = record { alike = record { value = refl; path = same_path most }; bounded = tt }
  stands of_truth = record { alike = record { value = refl; path = same_path most }; bounded = tt }
  stands (of_variable {x = x} there) = variable_stands x (known words x) refl
  stands (of_prefix {operator = operator} {width = width} {operand = operand} {kind = kind} has takes even) =
      let a = stands has in
      behind most m (prefix_alike a.alike)
      (prefixed_becomes most m operator width (simple words operand)
      (negated_fits operator kind (value_in m (simple words operand)) takes (operand_fits has a.alike)) a.bounded)
  stands (of_binary {place = place} {operator = operator} {width = width} {left = left} {right =
      right} {one = one} {other = other} {whole = whole} has more makes even) =
      let a = stands has in
      let b = stands more in
      behind most m (binary_alike a.alike b.alike)
      (operated_becomes most m place width (simple words left) (simple words right) a.bounded b.bounded operator
      (record {
        profile = types.profile;
        one = one;
        other = other;
        whole = whole;
        makes = makes;
        even = even;
        left = operand_fits has a.alike;
        right = operand_fits more b.alike;
      }))
  stands (of_rotation {width = width} {operand = operand} {amount = amount} has numeric low high even) =
      behind most m (rotate_alike (stands has).alike) (rotated_becomes most m width (simple words operand) amount)
  stands (of_conversion {kind = kind} {operand = operand} has numeric) =
      behind most m (convert_alike (stands has).alike) (converted_becomes most m kind (simple words operand))
  stands (of_selection {condition = condition} {accepted = accepted} {otherwise = otherwise} chooser has more) =
      let a = stands has in
      let b = stands more in
      behind most m (select_alike (stands chooser).alike a.alike b.alike)
      (chosen_becomes most m (simple words condition) (simple words accepted) (simple words otherwise) a.bounded
      b.bounded)
  stands (of_element there has) = record { alike = element_alike refl (stands has).alike; bounded = tt }

  pub still_alike : {e : TermTree} {word : WordType} → TermHasType types e word → IsAlike most m m e (simple words e)
  still_alike has = (stands has).alike

  pub suited_alike : {e : TermTree} {word : WordType} → TermSuits types word e → IsAlike most m m e (simple words e)
  suited_alike suits = still_alike suits.has_type

  pub all_alike : (word : WordType) (es : List TermTree) → AllSuit types word es
      → AreAllAlike most m m es (map (simple words) es)
  all_alike word [] suit = record { values = refl; filled = λ size. refl; path = same_path most }
  all_alike word (e ∷ es) suit = all_values_alike (suited_alike suit.0) (all_alike word es suit.1)

  pub result_alike : (returned : Option WordType) (value : Option TermTree) → IsResult types returned value
      → IsResultAlike most m m value (option_map (simple words) value)
  result_alike None None is = record { value = refl; path = same_path most }
  result_alike (Some word) (Some value) is =
      let a = suited_alike is in record { value = ap Some a.value; path = a.path }
  result_alike returned value is = absurd is

pub same_value : (types : Types) (words : WordFacts) (m : Values) → FactsHold types words m → {e : TermTree}
    {word : WordType}
    → TermHasType types e word → value_in m (simple words e) ≡ value_in m e
same_value types words m holds has = (still_alike [] types words m holds has).value
