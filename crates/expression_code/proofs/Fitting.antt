-- Values within the kinds of their variables. A variable that is laid out as an array of no elements may hold anything
-- within its kind: the word that it is elsewhere.
use Rattle.std.proofs.Common.{◌≡◌, ℕ, ◌<◌, ◌==◌, List, length, All, Some}
use Rattle.expression_code.proofs.Below.{FlatVariable, IsWithinKind, numbers_in, TermHasType}
use Rattle.expression_code.proofs.Below.{of_binary, of_conversion, of_element, of_number, of_prefix}
use Rattle.expression_code.proofs.Below.{of_rotation, of_selection, of_truth, of_variable, value_in}
use Rattle.expression_code.proofs.Below.{TermTree, Values, width_of, WordType, word_as, array_as}
use Rattle.inline.proofs.Fitting.{bit_fits, either_fits, element_fits, number_fits, operated_fits, prefix_fits}
use Rattle.inline.proofs.Fitting.{wrapped_fits}
use Rattle.inline.specs.Fitting.{Fits, IsHeld}
use Rattle.inline.specs.FlatTyping.{Types}

-- numbers within a variable's kind, as many as it has elements, where it has any
pub record IsOfKind (d : FlatVariable) (numbers : List ℕ) : Type 0 where
  pub count : 0 < numbers_in d.elements → length numbers ≡ numbers_in d.elements
  pub within : All (IsWithinKind d.word.kind) numbers

-- such numbers for each variable
abbrev pub AreOfKinds : Types → Values → Type 0
AreOfKinds types m = (x : ℕ) (d : FlatVariable) → types.at x ≡ Some d → IsOfKind d (m x)

pub held_kind : {d : FlatVariable} {numbers : List ℕ} → IsHeld d numbers → IsOfKind d numbers
held_kind held = record { count = λ some. held.count; within = held.within }

pub fits_kinds : (types : Types) (m : Values) → Fits types m → AreOfKinds types m
fits_kinds types m fits x d is = held_kind (fits x d is)

-- a well-typed expression's value is within its kind then
module _ (types : Types) (m : Values) (fits : AreOfKinds types m) where
  pub value_fits : {e : TermTree} {whole : WordType} → TermHasType types e whole → IsWithinKind whole.kind
      (value_in m e)
  value_fits (of_number below) = below
  value_fits (of_truth {value = value}) = bit_fits value
  value_fits (of_variable {x = x} {word = word} {mutable = mutable} is) =
      element_fits word.kind (m x) 0 (fits x (word_as word mutable) is).within
  value_fits (of_prefix {operator = operator} {operand = operand} {kind = kind} has takes width) =
      rw width (prefix_fits operator kind (value_in m operand) takes)
  value_fits (of_binary {operator = operator} {left = left} {right = right} has more makes width) =
      rw width (operated_fits operator (value_in m left) (value_in m right) makes (value_fits has) (value_fits more))
  value_fits (of_rotation {kind = kind} has numeric low high width) =
      rw width (number_fits kind _ numeric (wrapped_fits (width_of kind) _))
  value_fits (of_conversion {kind = kind} {operand = operand} has numeric) =
      number_fits kind _ numeric (wrapped_fits (width_of kind) (value_in m operand))
  value_fits (of_selection {condition = condition} {accepted = accepted} {otherwise = otherwise} {kind = kind} chooser
      has more) =
      either_fits kind (value_in m condition == 0) (value_in m accepted) (value_in m otherwise) (value_fits has)
      (value_fits more)
  value_fits (of_element {x = x} {size = size} {index = index} {word = word} {mutable = mutable} is has) =
      element_fits word.kind (m x) (value_in m index) (fits x (array_as word mutable size) is).within
