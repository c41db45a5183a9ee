-- What an iteration loses in a group: where the counter is read, a sum of the base is made, but not for an index that
-- is the counter, or differs from it by a number; and an array that might become words, if each iteration had code of
-- its own, stays one.
use Rattle.std.specs.Prelude.{ℕ, ◌+◌, ◌==◌, ◌&&◌, ◌||◌, Bool, true, false, List, [], ◌∷◌, if◌then◌else◌, Option}
use Rattle.std.specs.Prelude.{None, Some}
use Rattle.optimisation.specs.Below.{Add, array, binary, BinaryOperator, branch, convert, element, first, nothing}
use Rattle.optimisation.specs.Below.{number, prefix, put, repeats, rotate, select, set, StraightBlock, StraightTree}
use Rattle.optimisation.specs.Below.{Subtract, take, TermTree, truth, variable}
use Rattle.straight_words.specs.declared.element_words.parts.SplitArray.{SplitArray}
use Rattle.straight_words.specs.element_words.private.Parts.{part_of, Parts}

abbrev pub is_variable : TermTree → Bool
is_variable (variable x) = true
is_variable _ = false

abbrev pub is_number : TermTree → Bool
is_number (number value kind) = true
is_number _ = false

-- a variable and a number, with an operator between them that makes the one so much more or less
abbrev pub moves : BinaryOperator → TermTree → TermTree → Bool
moves Add left right = (is_variable left && is_number right) || (is_number left && is_variable right)
moves Subtract left right = is_variable left && is_number right
moves _ left right = false

-- an index that is a variable, or differs from one by a number
abbrev pub is_near : TermTree → Bool
is_near (variable x) = true
is_near (binary place operator width left right) = moves operator left right
is_near _ = false

abbrev pub lost_part : Option SplitArray → ℕ
lost_part None = 0
lost_part (Some part) = 1

-- what is lost by an expression, where this is the counter
abbrev pub lost : Parts → ℕ → TermTree → ℕ
lost arrays y (number value kind) = 0
lost arrays y (truth value) = 0
lost arrays y (variable x) = if x == y then 1 else 0
lost arrays y (prefix operator width operand) = lost arrays y operand
lost arrays y (binary place operator width left right) = lost arrays y left + lost arrays y right
lost arrays y (rotate width operand amount) = lost arrays y operand
lost arrays y (convert kind operand) = lost arrays y operand
lost arrays y (select condition accepted otherwise) =
    lost arrays y condition + lost arrays y accepted + lost arrays y otherwise
lost arrays y (element place x size index) =
    lost_part (part_of arrays x) + (if is_near index then 0 else lost arrays y index)

-- by an index
abbrev pub lost_at : Parts → ℕ → TermTree → ℕ
lost_at arrays y index = if is_near index then 0 else lost arrays y index

-- by expressions
abbrev pub all_lost : Parts → ℕ → List TermTree → ℕ
all_lost arrays y [] = 0
all_lost arrays y (e ∷ es) = lost arrays y e + all_lost arrays y es

abbrev mutual
  -- by a statement
  pub lost_by : Parts → ℕ → StraightTree → ℕ
  lost_by arrays y (set within x value) = lost arrays y value
  lost_by arrays y (array x size values) = lost_part (part_of arrays x) + all_lost arrays y values
  lost_by arrays y (put within place x size index value) =
      lost_part (part_of arrays x) + lost_at arrays y index + lost arrays y value
  lost_by arrays y (take control within condition) = lost arrays y condition
  lost_by arrays y (branch condition accepted otherwise) =
      lost arrays y condition + lost_by_all arrays y accepted + lost_by_all arrays y otherwise
  lost_by arrays y (repeats x low high body) =
      lost arrays y low + lost arrays y high + lost_by_all arrays y body

  -- by statements
  pub lost_by_all : Parts → ℕ → StraightBlock → ℕ
  lost_by_all arrays y nothing = 0
  lost_by_all arrays y (first statement rest) = lost_by arrays y statement + lost_by_all arrays y rest
