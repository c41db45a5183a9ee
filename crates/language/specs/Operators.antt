-- The operators of the language: what each takes and gives, and what it makes of words.
use Rattle.std.specs.Prelude.{ℕ, ◌*◌, ◌/◌, ◌^◌, ◌==◌, ◌&&◌, ◌||◌, Bool, true, false, not, nat_lt, nat_le, bit_and}
use Rattle.std.specs.Prelude.{bit_or, bit_xor}
use Rattle.std.specs.Prelude.{Option, None, Some}
use Rattle.word.specs.Operators.{sum, difference, product, quotient, remainder, negated, complemented, shifted_left}
use Rattle.word.specs.Operators.{shifted_right, word_of}
use Rattle.word.specs.declared.width.Width.{Width}
use Rattle.word.specs.declared.width.Width.TheVariants.{W8, W16, W32}
use Rattle.language.specs.declared.signature.Kind.{Kind}
use Rattle.language.specs.declared.signature.Kind.TheVariants.{Boolean, Uint8, Uint16, Uint32}
use Rattle.language.specs.declared.operators.BinaryOperator.{BinaryOperator}
use Rattle.language.specs.declared.operators.BinaryOperator.TheVariants.{LogicalOr, LogicalAnd, Equal, Unequal, Less}
use Rattle.language.specs.declared.operators.BinaryOperator.TheVariants.{LessOrEqual}
use Rattle.language.specs.declared.operators.BinaryOperator.TheVariants.{Greater, GreaterOrEqual, BitOr, BitXor, BitAnd}
use Rattle.language.specs.declared.operators.BinaryOperator.TheVariants.{ShiftLeft, ShiftRight, Add, Subtract, Multiply}
use Rattle.language.specs.declared.operators.BinaryOperator.TheVariants.{Divide, Remainder, HighProduct}
use Rattle.language.specs.declared.operators.PrefixOperator.{PrefixOperator}
use Rattle.language.specs.declared.operators.PrefixOperator.TheVariants.{Not, Complement, Negate}
use Rattle.language.specs.declared.operation.Operation.{Operation}
use Rattle.language.specs.declared.operation.Operation.TheVariants.{Arithmetic, Multiplication, Division, Shift}
use Rattle.language.specs.declared.operation.Operation.TheVariants.{Equality, Order, Logic}

-- the width of a number; a bool lies in the narrowest
abbrev pub width_of : Kind → Width
width_of Boolean = W8
width_of Uint8 = W8
width_of Uint16 = W16
width_of Uint32 = W32

abbrev pub truth_of : ℕ → Bool
truth_of v = not (v == 0)

-- what an operator makes of its operands
abbrev pub operation_of : BinaryOperator → Operation
operation_of LogicalOr = Logic
operation_of LogicalAnd = Logic
operation_of Equal = Equality
operation_of Unequal = Equality
operation_of Less = Order
operation_of LessOrEqual = Order
operation_of Greater = Order
operation_of GreaterOrEqual = Order
operation_of BitOr = Arithmetic
operation_of BitXor = Arithmetic
operation_of BitAnd = Arithmetic
operation_of ShiftLeft = Shift
operation_of ShiftRight = Shift
operation_of Add = Arithmetic
operation_of Subtract = Arithmetic
operation_of Multiply = Multiplication
operation_of Divide = Division
operation_of Remainder = Division
operation_of HighProduct = Multiplication

-- the upper word of the product of two words
abbrev pub high_product : ℕ → ℕ → ℕ
high_product a b = a * b / 2 ^ 32

-- the value between two operands, the left of this width
abbrev pub operated : BinaryOperator → Width → ℕ → ℕ → ℕ
operated LogicalOr w a b = word_of (truth_of a || truth_of b)
operated LogicalAnd w a b = word_of (truth_of a && truth_of b)
operated Equal w a b = word_of (a == b)
operated Unequal w a b = word_of (not (a == b))
operated Less w a b = word_of (nat_lt a b)
operated LessOrEqual w a b = word_of (nat_le a b)
operated Greater w a b = word_of (nat_lt b a)
operated GreaterOrEqual w a b = word_of (nat_le b a)
operated BitOr w a b = bit_or a b
operated BitXor w a b = bit_xor a b
operated BitAnd w a b = bit_and a b
operated ShiftLeft w a b = shifted_left w a b
operated ShiftRight w a b = shifted_right w a b
operated Add w a b = sum w a b
operated Subtract w a b = difference w a b
operated Multiply w a b = product w a b
operated Divide w a b = quotient a b
operated Remainder w a b = remainder a b
operated HighProduct w a b = high_product a b

-- a quotient and a remainder by 0 have no meaning
abbrev pub divides : BinaryOperator → Bool
divides Divide = true
divides Remainder = true
divides _ = false

-- the comparison that holds exactly where another one does not
abbrev pub opposite_of : BinaryOperator → Option BinaryOperator
opposite_of Equal = Some Unequal
opposite_of Unequal = Some Equal
opposite_of Less = Some GreaterOrEqual
opposite_of LessOrEqual = Some Greater
opposite_of Greater = Some LessOrEqual
opposite_of GreaterOrEqual = Some Less
opposite_of _ = None

-- the operator that makes the same of two numbers swapped, where there is one and neither of them is shown
abbrev pub swapped_of : BinaryOperator → Option BinaryOperator
swapped_of Equal = Some Equal
swapped_of Unequal = Some Unequal
swapped_of Less = Some Greater
swapped_of LessOrEqual = Some GreaterOrEqual
swapped_of Greater = Some Less
swapped_of GreaterOrEqual = Some LessOrEqual
swapped_of BitOr = Some BitOr
swapped_of BitXor = Some BitXor
swapped_of BitAnd = Some BitAnd
swapped_of Add = Some Add
swapped_of _ = None

-- a product
abbrev pub multiplies : BinaryOperator → Bool
multiplies Multiply = true
multiplies HighProduct = true
multiplies _ = false

abbrev pub prefix_value : PrefixOperator → Width → ℕ → ℕ
prefix_value Not w a = word_of (not (truth_of a))
prefix_value Complement w a = complemented w a
prefix_value Negate w a = negated w a
