-- Arguments and outcomes that texts spell, and what of arguments is public.
use Rattle.std.specs.Prelude.{◌≡◌, ℕ, List, [], ◌∷◌, ◌++◌, map, Option, Some, None, Result, Ok, Err}
use Rattle.image_reports.specs.Below.{AreWithin, Arg, ArgumentFault, fault_of_texts, Label, numbers_of, Param, Public}
use Rattle.image_reports.specs.Below.{Results, Secret, words_of}
use Rattle.image_reports.specs.vectors.Texts.{plain, difference_text}

-- arguments within the parameter types, whose numbers texts spell
pub record TextsSpell (params : List Param) (texts : List (List ℕ)) (args : List Arg) : Type 0 where
  pub within : AreWithin params args
  pub numbers : map (λ arg. Some (words_of arg)) args ≡ map numbers_of texts

-- arguments that the texts spell, or the first fault of the texts
abbrev pub IsReading : List Param → List (List ℕ) → Result (List Arg) ArgumentFault → Type 0
IsReading params texts (Ok args) = TextsSpell params texts args
IsReading params texts (Err fault) = fault_of_texts params texts ≡ Some fault

-- an argument that is given where its parameter is public
abbrev pub given_by : Label → Arg → Option Arg
given_by Public arg = Some arg
given_by Secret arg = None

-- the public arguments alone
abbrev pub publics : List Param → List Arg → List (Option Arg)
publics [] args = []
publics (param ∷ params) [] = []
publics (param ∷ params) (arg ∷ args) = given_by param.label arg ∷ publics params args

-- the numbers of an outcome, list by list: what is returned, and then each `mut` array
abbrev pub returned_list : Option ℕ → List (List ℕ)
returned_list None = []
returned_list (Some word) = (word ∷ []) ∷ []

abbrev pub lists_of : Results → List (List ℕ)
lists_of results = returned_list results.returned ++ results.arrays

-- texts spell these lists of numbers
abbrev pub Spell : List (List ℕ) → List (List ℕ) → Type 0
Spell texts lists = map numbers_of texts ≡ map Some lists

-- how lists of numbers differ from those that texts ask for, if they do
abbrev pub IsDifference : List (List ℕ) → List (List ℕ) → Option (List ℕ) → Type 0
IsDifference wanted lists None = Spell (map plain wanted) lists
IsDifference wanted lists (Some text) = (Spell (map plain wanted) lists → ⊥) × (text ≡ difference_text wanted lists)
