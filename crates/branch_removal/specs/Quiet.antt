-- Expressions of which a run shows nothing.
use Rattle.std.specs.Prelude.{◌&&◌, ◌||◌, Bool, true, false, not}
use Rattle.branch_removal.specs.Below.{binary, BinaryOperator, convert, divides, element, multiplies, number, prefix}
use Rattle.branch_removal.specs.Below.{rotate, select, TermTree, truth, variable}

-- operands of this operator are on the path
abbrev pub is_marked : BinaryOperator → Bool
is_marked operator = divides operator || multiplies operator

-- no index, division or multiplication is in an expression: its path is empty
abbrev pub is_quiet : TermTree → Bool
is_quiet (number value kind) = true
is_quiet (truth value) = true
is_quiet (variable x) = true
is_quiet (prefix operator width operand) = is_quiet operand
is_quiet (binary place operator width left right) = not (is_marked operator) && is_quiet left && is_quiet right
is_quiet (rotate width operand amount) = is_quiet operand
is_quiet (convert kind operand) = is_quiet operand
is_quiet (select condition accepted otherwise) = is_quiet condition && is_quiet accepted && is_quiet otherwise
is_quiet (element place x size index) = false
