-- Expressions in which what is known is a number: an operator between numbers is what it comes to, one that a number on
-- one side decides is that bool, one that leaves its operand as it is is that operand, one by a power of two is a shift
-- or a mask, a comparison that `!` stands before is the opposite one, one with a number on its left has its operands
-- swapped, and bits of a word are had by two shifts. A division by 0 stays, since it comes to nothing. A word that is
-- another one's copy is read as that one.
use Rattle.std.specs.Prelude.{ℕ, ◌-◌, ◌==◌, ◌&&◌, Bool, true, false, nat_le, Option, None, Some, if◌then◌else◌}
use Rattle.std.specs.Bool.{then_some}
use Rattle.std.specs.Option.{option_and, option_and_then, option_map, option_or}
use Rattle.optimisation.specs.Below.{Add, binary, BinaryOperator, BitAnd, BitOr, BitXor, Boolean, LogicalAnd}
use Rattle.optimisation.specs.Below.{Complement, complemented, convert, converted, Divide, divides, LogicalOr, element}
use Rattle.optimisation.specs.Below.{Greater, GreaterOrEqual, Kind, Less, LessOrEqual, Multiply, Negate, Not, number}
use Rattle.optimisation.specs.Below.{operated, operation_kind, operation_of, opposite_of, Place, prefix, prefix_value}
use Rattle.optimisation.specs.Below.{PrefixOperator, rotate, rotated_left, select, ShiftLeft, ShiftRight, Subtract}
use Rattle.optimisation.specs.Below.{TermTree, truth, truth_of, swapped_of, variable, Width, width_of, word_of}
use Rattle.optimisation.specs.declared.constants.known.Constant.{Constant}
use Rattle.optimisation.specs.declared.constants.terms.CounterRange.{CounterRange}
use Rattle.optimisation.specs.constants.private.Fields.{amount_of, field_of, mask_of, moved_or}
use Rattle.optimisation.specs.declared.constants.powers.OperatorStep.{OperatorStep}
use Rattle.optimisation.specs.constants.private.Known.{WordFacts, known, source_in}
use Rattle.optimisation.specs.constants.private.Powers.{step_of, swapped_step}

-- a number of this value and kind
abbrev pub constant : ℕ → Kind → Constant
constant value kind = record { value = value; kind = kind }

-- what an expression is, where it is a number
abbrev pub constant_of : TermTree → Option Constant
constant_of (number value kind) = Some (constant value kind)
constant_of (truth value) = Some (constant (word_of value) Boolean)
constant_of _ = None

-- a number that is known
abbrev pub number_of : Constant → TermTree
number_of c = number c.value c.kind

-- a number where it is known, else an expression
abbrev pub known_or : Option Constant → TermTree → TermTree
known_or None e = e
known_or (Some c) e = number_of c

-- what a condition says, where it is a number
abbrev pub decision : TermTree → Option Bool
decision e = option_map (λ c. truth_of c.value) (constant_of e)

-- Nodes with their operands.

-- the comparison that one with a number on its left is, its operands swapped; `opposite_of` tells whether an
-- operator is a comparison, since `swapped_of` alone swaps the operands of others too
abbrev pub swapped_by : BinaryOperator → Option Constant → Option BinaryOperator
swapped_by operator None = None
swapped_by operator (Some c) = option_and (opposite_of operator) (swapped_of operator)

-- two operands with this operator between them, where there is one, else an expression
abbrev pub binary_or : Option BinaryOperator → Place → Width → TermTree → TermTree → TermTree → TermTree
binary_or None place width left right e = e
binary_or (Some operator) place width left right e = binary place operator width left right

-- the operand of `!`, else an expression
abbrev pub operand_of_not : PrefixOperator → TermTree → TermTree → TermTree
operand_of_not Not operand e = operand
operand_of_not Complement operand e = e
operand_of_not Negate operand e = e

-- `!` and its operand: of a comparison the opposite one, of another `!` the operand of that
abbrev pub negation_of : Width → TermTree → TermTree
negation_of width (prefix operator w operand) =
    operand_of_not operator operand (prefix Not width (prefix operator w operand))
negation_of width (binary place operator w left right) =
    binary_or (opposite_of operator) place w left right (prefix Not width (binary place operator w left right))
negation_of width e = prefix Not width e

abbrev pub applied : PrefixOperator → Width → TermTree → TermTree
applied Not width operand = negation_of width operand
applied Complement width operand = prefix Complement width operand
applied Negate width operand = prefix Negate width operand

abbrev pub prefixed : PrefixOperator → Width → TermTree → TermTree
prefixed operator width operand =
    known_or (option_map (λ c. constant (prefix_value operator width c.value) c.kind) (constant_of operand))
    (applied operator width operand)

-- the value between two numbers, where they have one
abbrev pub folded : BinaryOperator → Width → ℕ → ℕ → Option ℕ
folded operator width a b = if divides operator && (b == 0) then None else Some (operated operator width a b)

abbrev pub between : BinaryOperator → Width → Option Constant → Option Constant → Option Constant
between operator width (Some a) (Some b) =
    option_map (λ v. constant v (operation_kind (operation_of operator) a.kind))
    (folded operator width a.value b.value)
between operator width _ _ = None

-- what an operator comes to by its left operand alone, whatever the right one is: a bool, where it does
abbrev pub decided_by_left : BinaryOperator → ℕ → Option Bool
decided_by_left LogicalOr a = then_some (truth_of a) true
decided_by_left LogicalAnd a = then_some (a == 0) false
decided_by_left LessOrEqual a = then_some (a == 0) true
decided_by_left Greater a = then_some (a == 0) false
decided_by_left _ a = None

-- and by its right operand
abbrev pub decided_by_right : BinaryOperator → ℕ → Option Bool
decided_by_right LogicalOr b = then_some (truth_of b) true
decided_by_right LogicalAnd b = then_some (b == 0) false
decided_by_right Less b = then_some (b == 0) false
decided_by_right GreaterOrEqual b = then_some (b == 0) true
decided_by_right _ b = None

-- by either, where it is a number
abbrev pub decided : BinaryOperator → Option Constant → Option Constant → Option Bool
decided operator left right =
    option_or (option_and_then (λ c. decided_by_left operator c.value) left)
    (option_and_then (λ c. decided_by_right operator c.value) right)

-- a bool where it is known, else an expression
abbrev pub truth_or : Option Bool → TermTree → TermTree
truth_or None e = e
truth_or (Some b) e = truth b

-- the right identities of an operator, its left operand of this width: with one of them on the right it leaves what is
-- on the left as it is
abbrev pub is_right_identity : BinaryOperator → Width → ℕ → Bool
is_right_identity LogicalOr w b = b == 0
is_right_identity LogicalAnd w b = truth_of b
is_right_identity BitOr w b = b == 0
is_right_identity BitXor w b = b == 0
is_right_identity BitAnd w b = b == complemented w 0
is_right_identity ShiftLeft w b = b == 0
is_right_identity ShiftRight w b = b == 0
is_right_identity Add w b = b == 0
is_right_identity Subtract w b = b == 0
is_right_identity Multiply w b = b == 1
is_right_identity Divide w b = b == 1
is_right_identity _ w b = false

-- and its left identities
abbrev pub is_left_identity : BinaryOperator → Width → ℕ → Bool
is_left_identity LogicalOr w a = a == 0
is_left_identity LogicalAnd w a = truth_of a
is_left_identity BitOr w a = a == 0
is_left_identity BitXor w a = a == 0
is_left_identity BitAnd w a = a == complemented w 0
is_left_identity Add w a = a == 0
is_left_identity Multiply w a = a == 1
is_left_identity _ w a = false

-- an operand is a number among these
abbrev pub is_among : (ℕ → Bool) → Option Constant → Bool
is_among numbers None = false
is_among numbers (Some c) = numbers c.value

-- what a mask leaves of a word that is moved down by a number, else an expression
abbrev pub narrowed : Place → Option Constant → TermTree → TermTree → TermTree
narrowed place mask (binary inner operator width word amount) e =
    moved_or (field_of mask (amount_of operator width (constant_of amount))) place width word e
narrowed place mask _ e = e

-- an operator between two operands, and two shifts in its place where it leaves bits of a word
abbrev pub operation : Place → BinaryOperator → Width → TermTree → TermTree → TermTree
operation place operator width left right =
    narrowed place (mask_of operator (constant_of right)) left (binary place operator width left right)

-- and a comparison with a number on its left, its operands swapped: a 0 on the right takes no instruction
abbrev pub swapped : Place → BinaryOperator → Width → TermTree → TermTree → TermTree
swapped place operator width left right =
    binary_or (swapped_by operator (constant_of left)) place width right left
    (operation place operator width left right)

-- an operand and a step that makes the same of it, where there is one, else an expression
abbrev pub stepped_or : Option OperatorStep → Place → Width → TermTree → TermTree → TermTree
stepped_or None place width word e = e
stepped_or (Some step) place width word e = operation place step.operator width word (number_of step.number)

-- an operator between two operands, and a shift or a mask in its place where one of them is a power of two
abbrev pub stepped : Place → BinaryOperator → Width → TermTree → TermTree → TermTree
stepped place operator width left right = stepped_or (step_of operator (constant_of right)) place width left
    (stepped_or (swapped_step operator (constant_of left)) place width right (swapped place operator width left right))

-- an operator whose one operand is an identity is the other operand
abbrev pub reduced : Place → BinaryOperator → Width → TermTree → TermTree → TermTree
reduced place operator width left right = if is_among (is_right_identity operator width) (constant_of right) then left
    else (if is_among (is_left_identity operator width) (constant_of left) then right
    else stepped place operator width left right)

abbrev pub operated_on : Place → BinaryOperator → Width → TermTree → TermTree → TermTree
operated_on place operator width left right =
    known_or (between operator width (constant_of left) (constant_of right))
    (truth_or (decided operator (constant_of left) (constant_of right)) (reduced place operator width left right))

abbrev pub rotated : Width → TermTree → ℕ → TermTree
rotated width operand amount =
    known_or (option_map (λ c. constant (rotated_left width c.value amount) c.kind) (constant_of operand))
    (rotate width operand amount)

abbrev pub converted_to : Kind → TermTree → TermTree
converted_to kind operand =
    known_or (option_map (λ c. constant (converted (width_of kind) c.value) kind) (constant_of operand))
    (convert kind operand)

-- of two operands the one that is chosen, where the condition says which
abbrev pub chosen : Option Bool → TermTree → TermTree → TermTree → TermTree
chosen None condition accepted otherwise = select condition accepted otherwise
chosen (Some true) condition accepted otherwise = accepted
chosen (Some false) condition accepted otherwise = otherwise

-- an expression, where this is known of the variables
abbrev pub simple : WordFacts → TermTree → TermTree
simple words (number value kind) = number value kind
simple words (truth value) = truth value
simple words (variable x) = known_or (known words x) (variable (source_in words.copies x))
simple words (prefix operator width operand) = prefixed operator width (simple words operand)
simple words (binary place operator width left right) =
    operated_on place operator width (simple words left) (simple words right)
simple words (rotate width operand amount) = rotated width (simple words operand) amount
simple words (convert kind operand) = converted_to kind (simple words operand)
simple words (select condition accepted otherwise) =
    chosen (decision (simple words condition)) (simple words condition) (simple words accepted)
    (simple words otherwise)
simple words (element place x size index) = element place x size (simple words index)

-- the numbers of a loop's counter, where both its bounds are known, and it makes no more iterations than this
abbrev pub numbers_of : ℕ → Option Constant → Option Constant → Option CounterRange
numbers_of most (Some low) (Some high) = if nat_le (high.value - low.value) most
    then Some (record { low = low.value; high = high.value }) else None
numbers_of most _ _ = None
