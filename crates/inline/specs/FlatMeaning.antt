-- What a body with numbered variables means: from what the variables hold, what they hold in the end, and the path of
-- the run. Both are total: after a fault they go on with some number, and the path tells that there was one.
use Rattle.std.specs.Prelude.{ℕ, zero, suc, ◌+◌, ◌-◌, ◌==◌, List, [], ◌∷◌, ◌++◌, map, replicate, drop, Option, None}
use Rattle.std.specs.Prelude.{Some, if◌then◌else◌, slice_index, slice_set}
use Rattle.std.specs.Option.{option_map}
use Rattle.inline.specs.Below.{Arg, BinaryOperator, converted, divides, Ending, faults, FixedArray, Form, gives}
use Rattle.inline.specs.Below.{multiplies, MutableArray, operated, Param, Place, prefix_value, Results, rotated_left}
use Rattle.inline.specs.Below.{SingleWord, width_of, word_of, words_of}
use Rattle.inline.specs.declared.flat.FlatVariable.{FlatVariable}
use Rattle.inline.specs.Flat.{TermTree, number, truth, variable, prefix, binary, rotate, convert, select, element}
use Rattle.inline.specs.Flat.{FlatTree, declare, array, assign, put, hold, skip, branch, loop, FlatBlock, nothing}
use Rattle.inline.specs.Flat.{first, FlatProgram, numbers_in}
use Rattle.inline.specs.Path.{bounded, indexed, divided, multiplied, Path, first_fault}

-- What the variables hold: a word is a list of one number, an array the list of its elements. A bool is 0 or 1.
abbrev pub Values : Type 0
Values = ℕ → List ℕ

abbrev pub with_value : Values → ℕ → List ℕ → Values
with_value m x v = λ y. if y == x then v else m y

-- Expressions.

-- the value of an expression
abbrev pub value_in : Values → TermTree → ℕ
value_in m (number value kind) = value
value_in m (truth value) = word_of value
value_in m (variable x) = slice_index (m x) 0
value_in m (prefix operator width operand) = prefix_value operator width (value_in m operand)
value_in m (binary place operator width left right) = operated operator width (value_in m left) (value_in m right)
value_in m (rotate width operand amount) = rotated_left width (value_in m operand) amount
value_in m (convert kind operand) = converted (width_of kind) (value_in m operand)
value_in m (select condition accepted otherwise) = if value_in m condition == 0 then value_in m otherwise
    else value_in m accepted
value_in m (element place x size index) = slice_index (m x) (value_in m index)

-- what an operator puts on the path: the operands of a division or a multiplication
abbrev pub marks_of : Place → BinaryOperator → ℕ → ℕ → Path
marks_of place operator a b =
    if divides operator then divided place a b ∷ [] else (if multiplies operator then multiplied a b ∷ [] else [])

-- the path of an expression: operands from left to right, then the node itself
abbrev pub path_in : Values → TermTree → Path
path_in m (number value kind) = []
path_in m (truth value) = []
path_in m (variable x) = []
path_in m (prefix operator width operand) = path_in m operand
path_in m (binary place operator width left right) =
    path_in m left ++ path_in m right ++ marks_of place operator (value_in m left) (value_in m right)
path_in m (rotate width operand amount) = path_in m operand
path_in m (convert kind operand) = path_in m operand
path_in m (select condition accepted otherwise) = path_in m condition ++ path_in m accepted ++ path_in m otherwise
path_in m (element place x size index) = path_in m index ++ indexed place size (value_in m index) ∷ []

-- of expressions, from left to right
abbrev pub path_in_all : Values → List TermTree → Path
path_in_all m [] = []
path_in_all m (e ∷ es) = path_in m e ++ path_in_all m es

-- Statements.

-- the elements of a new array: its first values where some are written, else zeros
abbrev pub elements : Values → ℕ → List TermTree → List ℕ
elements m size [] = replicate size 0
elements m size (e ∷ es) = map (value_in m) (e ∷ es)

-- so many iterations, the first at this number: what each makes of a state, and the path of each
abbrev pub iterations : {S : Type 0} → ℕ → ℕ → (ℕ → S → S) → S → S
iterations zero i iteration s = s
iterations (suc n) i iteration s = iterations n (i + 1) iteration (iteration i s)

abbrev pub path_of_iterations : {S : Type 0} → ℕ → ℕ → (ℕ → S → S) → (ℕ → S → Path) → S → Path
path_of_iterations zero i iteration path s = []
path_of_iterations (suc n) i iteration path s = path i s ++ path_of_iterations n (i + 1) iteration path (iteration i s)

abbrev mutual
  -- after a statement; of a branch one arm runs
  pub after : Values → FlatTree → Values
  after m (declare x word mutable value) = with_value m x (value_in m value ∷ [])
  after m (array x word mutable size values) = with_value m x (elements m size values)
  after m (assign x value) = with_value m x (value_in m value ∷ [])
  after m (put place x size index value) = with_value m x (slice_set (m x) (value_in m index) (value_in m value))
  after m (hold x place size index) = with_value m x (value_in m index ∷ [])
  after m skip = m
  after m (branch label condition accepted otherwise) = if value_in m condition == 0 then after_all m otherwise
      else after_all m accepted
  after m (loop x low high body) =
      iterations (value_in m high - value_in m low) (value_in m low) (λ i t. after_all (with_value t x (i ∷ [])) body) m

  pub after_all : Values → FlatBlock → Values
  after_all m nothing = m
  after_all m (first statement rest) = after_all (after m statement) rest

abbrev mutual
  -- the path of a statement; an element's index is met before the value
  pub path_at : Values → FlatTree → Path
  path_at m (declare x word mutable value) = path_in m value
  path_at m (array x word mutable size values) = path_in_all m values
  path_at m (assign x value) = path_in m value
  path_at m (put place x size index value) = path_in m index ++ indexed place size (value_in m index)
      ∷ path_in m value
  path_at m (hold x place size index) = path_in m index ++ indexed place size (value_in m index) ∷ []
  path_at m skip = []
  path_at m (branch label condition accepted otherwise) =
      path_in m condition ++ (if value_in m condition == 0 then path_along m otherwise else path_along m accepted)
  path_at m (loop x low high body) =
      path_in m low ++ path_in m high ++ bounded x (value_in m low) (value_in m high)
      ∷ path_of_iterations (value_in m high - value_in m low) (value_in m low)
      (λ i t. after_all (with_value t x (i ∷ [])) body) (λ i t. path_along (with_value t x (i ∷ [])) body) m

  pub path_along : Values → FlatBlock → Path
  path_along m nothing = []
  path_along m (first statement rest) = path_at m statement ++ path_along (after m statement) rest

-- Programs.

-- the parameters hold the arguments, all other variables zeros
abbrev pub given : List FlatVariable → List Arg → Values
given [] args x = []
given (d ∷ ds) [] zero = replicate (numbers_in d.elements) 0
given (d ∷ ds) (arg ∷ args) zero = words_of arg
given (d ∷ ds) args (suc x) = given ds (drop 1 args) x

-- the final words of each `mut` array among the parameters, of which the first has this number
abbrev pub array_of : Form → List ℕ → List (List ℕ)
array_of SingleWord words = []
array_of FixedArray words = []
array_of MutableArray words = words ∷ []

abbrev pub arrays_from : ℕ → List Param → Values → List (List ℕ)
arrays_from x [] m = []
arrays_from x (p ∷ ps) m = array_of p.form (m x) ++ arrays_from (x + 1) ps m

-- what a result is, once the variables hold these values
abbrev pub results_of : List Param → Option TermTree → Values → Results
results_of parameters value m = record {
  returned = option_map (value_in m) value;
  arrays = arrays_from 0 parameters m;
}

-- the path of a result, where there is one
abbrev pub path_of_result : Values → Option TermTree → Path
path_of_result m None = []
path_of_result m (Some value) = path_in m value

-- what the variables hold at the end, on arguments
abbrev pub end_of : FlatProgram → List Arg → Values
end_of p args = after_all (given p.declared args) p.body

-- the outcome on arguments
abbrev pub outcome_of : FlatProgram → List Arg → Results
outcome_of p args = results_of p.parameters p.value (end_of p args)

-- the path on arguments
abbrev pub path_of : FlatProgram → List Arg → Path
path_of p args = path_along (given p.declared args) p.body ++ path_of_result (end_of p args) p.value

-- the first fault, or else a result
abbrev pub ending_by : {A : Type 0} → Option Place → A → Ending A
ending_by None result = gives result
ending_by (Some place) result = faults place

-- what a program comes to on arguments
abbrev pub ending_of : FlatProgram → List Arg → Ending Results
ending_of p args = ending_by (first_fault (path_of p args)) (outcome_of p args)
