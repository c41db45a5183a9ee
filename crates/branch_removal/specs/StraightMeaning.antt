-- What straight code means: from what the variables hold and the control values, what they are in the end, and the
-- path of the run. A condition is taken once into control values, and an assignment under a control value sets its
-- target where that value is true and else keeps it.
use Rattle.std.specs.Prelude.{ℕ, ◌+◌, ◌-◌, ◌==◌, Bool, true, false, not, ◌&&◌, List, [], ◌∷◌, ◌++◌}
use Rattle.std.specs.Prelude.{Option, None, Some, if◌then◌else◌, slice_set}
use Rattle.branch_removal.specs.Below.{Arg, bounded, decided, elements, given, indexed, Path, path_in, path_in_all}
use Rattle.branch_removal.specs.Below.{path_of_result, path_of_iterations, results_of, TermTree, iterations, value_in}
use Rattle.branch_removal.specs.Below.{Values, with_value}
use Rattle.branch_removal.specs.Straight.{StraightTree, set, array, put, take, branch, repeats}
use Rattle.branch_removal.specs.Straight.{StraightBlock, nothing, first, StraightProgram}
use Rattle.language.specs.Results.{Results}

pub record StraightState : Type 0 where
  pub variables : Values
  -- the control values
  pub controls : ℕ → Bool

-- whether the enclosing control value is true, where there is one
abbrev pub holds : StraightState → Option ℕ → Bool
holds s None = true
holds s (Some control) = s.controls control

abbrev pub with_variable : StraightState → ℕ → List ℕ → StraightState
with_variable s x v = record { variables = with_value s.variables x v; controls = s.controls }

-- the array x with an element set
abbrev pub with_element : StraightState → ℕ → ℕ → ℕ → StraightState
with_element s x i v = with_variable s x (slice_set (s.variables x) i v)

-- both control values of a condition
abbrev pub with_controls : StraightState → ℕ → Bool → Bool → StraightState
with_controls s control accepted otherwise =
    record {
      variables = s.variables;
      controls = λ c. if c == control then accepted
          else (if c == control + 1 then otherwise else s.controls c);
    }

-- the value of an expression
abbrev pub value_at : StraightState → TermTree → ℕ
value_at s e = value_in s.variables e

-- the state in which a counter is at a number
abbrev pub counted : ℕ → ℕ → StraightState → StraightState
counted x i s = with_variable s x (i ∷ [])

abbrev mutual
  pub after : StraightState → StraightTree → StraightState
  after s (set within x value) = if holds s within then with_variable s x (value_at s value ∷ []) else s
  after s (array x size values) = with_variable s x (elements s.variables size values)
  after s (put within place x size index value) =
      if holds s within then with_element s x (value_at s index) (value_at s value) else s
  after s (take control within condition) =
      with_controls s control
      (holds s within && not (value_at s condition == 0))
      (holds s within && (value_at s condition == 0))
  after s (branch condition accepted otherwise) = if value_at s condition == 0 then after_all s otherwise
      else after_all s accepted
  after s (repeats x low high body) =
      iterations (value_at s high - value_at s low) (value_at s low) (λ i t. after_all (counted x i t) body) s

  pub after_all : StraightState → StraightBlock → StraightState
  after_all s nothing = s
  after_all s (first statement rest) = after_all (after s statement) rest

abbrev mutual
  -- the path of a statement: also an element that is kept is loaded and stored at its index
  pub path_at : StraightState → StraightTree → Path
  path_at s (set within x value) = path_in s.variables value
  path_at s (array x size values) = path_in_all s.variables values
  path_at s (put within place x size index value) =
      path_in s.variables index ++ indexed place size (value_at s index) ∷ path_in s.variables value
  path_at s (take control within condition) = path_in s.variables condition
  path_at s (branch condition accepted otherwise) =
      path_in s.variables condition ++ decided (value_at s condition)
      ∷ (if value_at s condition == 0 then path_along s otherwise else path_along s accepted)
  path_at s (repeats x low high body) =
      path_in s.variables low ++ path_in s.variables high ++ bounded x (value_at s low) (value_at s high)
      ∷ path_of_iterations (value_at s high - value_at s low) (value_at s low) (λ i t. after_all (counted x i t) body)
      (λ i t. path_along (counted x i t) body) s

  pub path_along : StraightState → StraightBlock → Path
  path_along s nothing = []
  path_along s (first statement rest) = path_at s statement ++ path_along (after s statement) rest

-- the parameters hold the arguments, all other variables zeros; no control value is true
abbrev pub start : StraightProgram → List Arg → StraightState
start p args = record { variables = given p.declared args; controls = λ c. false }

-- what the variables hold at the end, on arguments
abbrev pub end_of : StraightProgram → List Arg → Values
end_of p args = (after_all (start p args) p.body).variables

-- the outcome on arguments
abbrev pub outcome_of : StraightProgram → List Arg → Results
outcome_of p args = results_of p.parameters p.value (end_of p args)

-- the path on arguments
abbrev pub path_of : StraightProgram → List Arg → Path
path_of p args = path_along (start p args) p.body ++ path_of_result (end_of p args) p.value
