-- How much room straight code asks of a frame: how many values of subexpressions are still needed at once, where
-- operands are computed from left to right, and how many loops stand in one another.
use Rattle.std.specs.Prelude.{ℕ, ◌+◌, List, [], ◌∷◌, Option, None, Some, max}
use Rattle.branch_removal.specs.Straight.{StraightTree, set, array, put, take, branch, repeats}
use Rattle.branch_removal.specs.Straight.{StraightBlock, nothing, first, StraightProgram}
use Rattle.branch_removal.specs.Below.{binary, convert, element, number, prefix, rotate, select, TermTree, truth}
use Rattle.branch_removal.specs.Below.{variable}

-- how many temporaries an expression has at once, beside the one that it comes into
abbrev pub height_of : TermTree → ℕ
height_of (number value kind) = 0
height_of (truth value) = 0
height_of (variable x) = 0
height_of (prefix operator width operand) = height_of operand
height_of (binary place operator width left right) = max (height_of left) (1 + height_of right)
height_of (rotate width operand amount) = height_of operand
height_of (convert kind operand) = height_of operand
height_of (select condition accepted otherwise) =
    max (height_of condition) (1 + max (height_of accepted) (1 + height_of otherwise))
height_of (element place x size index) = height_of index

-- how many temporaries expressions have at once at most, beside the first
abbrev pub height_of_all : List TermTree → ℕ
height_of_all [] = 0
height_of_all (e ∷ es) = max (height_of e) (height_of_all es)

-- and those of an index and a value
abbrev pub height_of_put : TermTree → TermTree → ℕ
height_of_put index value = max (height_of index) (1 + height_of value)

abbrev mutual
  -- those of a statement
  pub height_in : StraightTree → ℕ
  height_in (set within x value) = height_of value
  height_in (array x size values) = height_of_all values
  height_in (put within place x size index value) = height_of_put index value
  height_in (take control within condition) = height_of condition
  height_in (branch condition accepted otherwise) =
      max (height_of condition) (max (height_in_all accepted) (height_in_all otherwise))
  height_in (repeats x low high body) = max (max (height_of low) (height_of high)) (height_in_all body)

  pub height_in_all : StraightBlock → ℕ
  height_in_all nothing = 0
  height_in_all (first statement rest) = max (height_in statement) (height_in_all rest)

abbrev mutual
  -- how many loops stand in one another at most
  pub depth_in : StraightTree → ℕ
  depth_in (set within x value) = 0
  depth_in (array x size values) = 0
  depth_in (put within place x size index value) = 0
  depth_in (take control within condition) = 0
  depth_in (branch condition accepted otherwise) = max (depth_in_all accepted) (depth_in_all otherwise)
  depth_in (repeats x low high body) = 1 + depth_in_all body

  pub depth_in_all : StraightBlock → ℕ
  depth_in_all nothing = 0
  depth_in_all (first statement rest) = max (depth_in statement) (depth_in_all rest)

abbrev pub result_height : Option TermTree → ℕ
result_height None = 0
result_height (Some value) = height_of value

-- how many temporaries there are at once at most, beside the first
abbrev pub program_height : StraightProgram → ℕ
program_height p = max (height_in_all p.body) (result_height p.value)
