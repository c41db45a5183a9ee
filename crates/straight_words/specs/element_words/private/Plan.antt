-- The words that a program's arrays become, and the program in which they are.
use Rattle.std.specs.Prelude.{ℕ, ◌-◌, List, [], ◌++◌, length, min, nat_lt, if◌then◌else◌}
use Rattle.std.specs.Option.{option_map}
use Rattle.straight_words.specs.Below.{declared_words, FlatVariable, StraightProgram, with_variables}
use Rattle.straight_words.specs.element_words.Limits.{most_new_words, most_variable_words}
use Rattle.straight_words.specs.element_words.private.Narrowing.{narrowed_by_all, narrowed_result}
use Rattle.straight_words.specs.element_words.private.Parts.{Parts, candidates, numbered, all_words}
use Rattle.straight_words.specs.element_words.private.Splitting.{split, split_all}

-- what the arrays become, and all variables, the words behind the others
pub record WordPlan : Type 0 where
  pub declared : List FlatVariable
  pub parts : Parts

-- how many words there is room for
abbrev pub room_beside : List FlatVariable → ℕ
room_beside declared = min most_new_words (most_variable_words - declared_words declared)

-- the arrays that are used by known indices alone
abbrev pub used_parts : StraightProgram → Parts
used_parts p = narrowed_result (narrowed_by_all (candidates (length p.parameters) p.declared) p.body) p.value

-- and become words: none where there are more variables than words for them
abbrev pub parts_of : StraightProgram → Parts
parts_of p = if nat_lt most_variable_words (length p.declared) then []
    else numbered (length p.declared) (room_beside p.declared) (used_parts p)

abbrev pub plan_of : StraightProgram → WordPlan
plan_of p = record { declared = p.declared ++ all_words (parts_of p); parts = parts_of p }

-- a program with these words
abbrev pub split_by : WordPlan → StraightProgram → StraightProgram
split_by plan p =
    with_variables p plan.declared (split_all plan.parts p.body) (option_map (split plan.parts) p.value)

abbrev pub split_program : StraightProgram → StraightProgram
split_program p = split_by (plan_of p) p
