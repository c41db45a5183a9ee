-- What a program leaves and shows, whatever its variables hold where it begins.
use Rattle.std.specs.Prelude.{◌≡◌, ℕ, ◌<◌, true, false, ◌++◌, length}
use Rattle.variable_room.specs.Below.{after_all, Path, path_along, path_of_result, results_of, StraightProgram}
use Rattle.variable_room.specs.Below.{StraightState, Values}
use Rattle.variable_room.specs.set_first.Order.{program_sets_first}
use Rattle.language.specs.Results.{Results}

-- the variables hold these values, and no control value is true
abbrev pub started : Values → StraightState
started values = record { variables = values; controls = λ c. false }

abbrev pub end_from : StraightProgram → Values → Values
end_from p values = (after_all (started values) p.body).variables

-- the outcome, and the path
abbrev pub outcome_from : StraightProgram → Values → Results
outcome_from p values = results_of p.parameters p.value (end_from p values)

abbrev pub path_from : StraightProgram → Values → Path
path_from p values = path_along (started values) p.body ++ path_of_result (end_from p values) p.value

-- these values are the same for the parameters
abbrev pub AgreeOnParameters : StraightProgram → Values → Values → Type 0
AgreeOnParameters p one other = (x : ℕ) → x < length p.parameters → one x ≡ other x

-- a program that sets each variable before it reads it leaves and shows the same wherever the parameters hold the same
abbrev pub OnlyParametersMatter : Type 0
OnlyParametersMatter =
    (p : StraightProgram) (one other : Values)
    → program_sets_first p ≡ true
    → AgreeOnParameters p one other
    → (outcome_from p one ≡ outcome_from p other) × (path_from p one ≡ path_from p other)
