-- Which numbers become words, and the program in which they are.
use Rattle.std.specs.Prelude.{ℕ, ◌+◌, ◌-◌, ◌&&◌, Bool, true, List, [], ◌∷◌, ◌++◌, length, map, nat_le, nat_lt}
use Rattle.std.specs.Prelude.{if◌then◌else◌}
use Rattle.std.specs.Option.{option_map}
use Rattle.variable_room.specs.Below.{chain, FlatVariable, labelled, Public, StraightProgram, with_variables, word_as}
use Rattle.variable_room.specs.declared.number_words.uses.NumberUse.{NumberUse}
use Rattle.variable_room.specs.declared.number_words.words.NumberWord.{NumberWord}
use Rattle.straight_words.specs.element_words.Limits.{most_variable_words}
use Rattle.variable_room.specs.number_words.private.Uses.{uses_of}
use Rattle.variable_room.specs.number_words.private.Wording.{settings, worded, worded_all}

abbrev pub most_words : ℕ
most_words = 64

abbrev pub least_weight : ℕ
least_weight = 4

-- what becomes of numbers, and all variables, the words behind the others
pub record NumberPlan : Type 0 where
  pub declared : List FlatVariable
  pub words : List NumberWord

-- a number that is used so much that it becomes a word
abbrev pub is_worth : NumberUse → Bool
is_worth each = nat_le least_weight each.weight

abbrev pub variable_of : NumberWord → FlatVariable
variable_of word = word_as (labelled word.number.kind Public) true

-- the words of numbers that are used so much, as long as there are not so many, the first behind so many variables
abbrev pub chosen_from : ℕ → ℕ → List NumberUse → List NumberWord
chosen_from next left [] = []
chosen_from next left (each ∷ uses) = if is_worth each && nat_lt 0 left
    then record { number = each.number; variable = next } ∷ chosen_from (next + 1) (left - 1) uses
    else chosen_from next left uses

abbrev pub chosen : ℕ → List NumberUse → List NumberWord
chosen first uses = chosen_from first most_words uses

-- the words of a program's numbers: none where there are many variables
abbrev pub words_in : StraightProgram → List NumberWord
words_in p = if nat_lt most_variable_words (length p.declared) then [] else chosen (length p.declared) (uses_of p)

abbrev pub plan_of : StraightProgram → NumberPlan
plan_of p = record { declared = p.declared ++ map variable_of (words_in p); words = words_in p }

-- a program in which numbers are these words
abbrev pub worded_by : NumberPlan → StraightProgram → StraightProgram
worded_by plan p =
    with_variables p plan.declared (chain (settings plan.words) (worded_all plan.words p.body))
    (option_map (worded plan.words) p.value)

abbrev pub worded_program : StraightProgram → StraightProgram
worded_program p = worded_by (plan_of p) p
