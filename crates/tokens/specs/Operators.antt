-- What tokens are in expressions: how operands begin, the operators that signs are, and how strongly they bind.
use Rattle.std.specs.Prelude.{ℕ, true, false, Option, Some, None}
use Rattle.std.specs.Option.{option_map}
use Rattle.tokens.specs.declared.token.TokenKind.{TokenKind}
use Rattle.tokens.specs.declared.token.TokenKind.TheVariants as token
use Rattle.tokens.specs.declared.token.Keyword.TheVariants.{Uint8, Uint16, Uint32, True, False, Select}
use Rattle.tokens.specs.declared.token.Sign.TheVariants.{RotateLeft, ShiftLeft, ShiftRight, AtMost, AtLeast, Equals}
use Rattle.tokens.specs.declared.token.Sign.TheVariants.{Differs, AndAlso, OrElse, OpenRound, Plus, Minus, Star, Slash}
use Rattle.tokens.specs.declared.token.Sign.TheVariants.{Percent, Ampersand, Bar, Caret, Tilde, Bang, Below, Above}
use Rattle.tokens.specs.declared.token.Suffix.{Suffix}
use Rattle.tokens.specs.declared.token.Suffix.TheVariants.{U8, U16, U32}
use Rattle.tokens.specs.declared.operators.OperandStart.{OperandStart}
use Rattle.tokens.specs.declared.operators.OperandStart.TheVariants.{Number as by_number, Truth as by_truth}
use Rattle.tokens.specs.declared.operators.OperandStart.TheVariants.{Name as by_name, Bracket as by_bracket}
use Rattle.tokens.specs.declared.operators.OperandStart.TheVariants.{Prefix as by_prefix}
use Rattle.tokens.specs.declared.operators.OperandStart.TheVariants.{Conversion as by_conversion}
use Rattle.tokens.specs.declared.operators.OperandStart.TheVariants.{Select as by_select}
use Rattle.tokens.specs.declared.operators.Link.{Link}
use Rattle.tokens.specs.declared.operators.Link.TheVariants.{Operator as by_operator, Rotation as by_rotation}
use Rattle.language.specs.declared.operators.BinaryOperator.TheVariants.{LogicalOr, LogicalAnd, Equal, Unequal, Less}
use Rattle.language.specs.declared.operators.BinaryOperator.TheVariants.{LessOrEqual}
use Rattle.language.specs.declared.operators.BinaryOperator.TheVariants.{Greater, GreaterOrEqual, BitOr, BitXor, BitAnd}
use Rattle.language.specs.declared.operators.BinaryOperator.TheVariants.{ShiftLeft as ShiftedLeft}
use Rattle.language.specs.declared.operators.BinaryOperator.TheVariants.{ShiftRight as ShiftedRight, Add, Subtract}
use Rattle.language.specs.declared.operators.BinaryOperator.TheVariants.{Multiply, Divide, Remainder, HighProduct}
use Rattle.language.specs.declared.operators.PrefixOperator.TheVariants.{Not, Complement, Negate}
use Rattle.tokens.specs.Below.{BinaryOperator, Kind, PrefixOperator, Uint16 as Uint16Kind, Uint32 as Uint32Kind}
use Rattle.tokens.specs.Below.{Uint8 as Uint8Kind}

-- the operator that a sign before an operand is
abbrev pub prefix_of : TokenKind → Option PrefixOperator
prefix_of (token.Sign Bang) = Some Not
prefix_of (token.Sign Tilde) = Some Complement
prefix_of (token.Sign Minus) = Some Negate
prefix_of _ = None

-- the operator that a sign between two operands is
abbrev pub operator_of : TokenKind → Option BinaryOperator
operator_of (token.Sign OrElse) = Some LogicalOr
operator_of (token.Sign AndAlso) = Some LogicalAnd
operator_of (token.Sign Equals) = Some Equal
operator_of (token.Sign Differs) = Some Unequal
operator_of (token.Sign Below) = Some Less
operator_of (token.Sign AtMost) = Some LessOrEqual
operator_of (token.Sign Above) = Some Greater
operator_of (token.Sign AtLeast) = Some GreaterOrEqual
operator_of (token.Sign Bar) = Some BitOr
operator_of (token.Sign Caret) = Some BitXor
operator_of (token.Sign Ampersand) = Some BitAnd
operator_of (token.Sign ShiftLeft) = Some ShiftedLeft
operator_of (token.Sign ShiftRight) = Some ShiftedRight
operator_of (token.Sign Plus) = Some Add
operator_of (token.Sign Minus) = Some Subtract
operator_of (token.Sign Star) = Some Multiply
operator_of (token.Sign Slash) = Some Divide
operator_of (token.Sign Percent) = Some Remainder
operator_of _ = None

-- how strongly an operator binds, from 1 to 9; signs before an operand bind at 10. One operator has no sign: it would
-- bind as other products do.
abbrev pub level_of : BinaryOperator → ℕ
level_of LogicalOr = 1
level_of LogicalAnd = 2
level_of Equal = 3
level_of Unequal = 3
level_of Less = 3
level_of LessOrEqual = 3
level_of Greater = 3
level_of GreaterOrEqual = 3
level_of BitOr = 4
level_of BitXor = 5
level_of BitAnd = 6
level_of ShiftedLeft = 7
level_of ShiftedRight = 7
level_of Add = 8
level_of Subtract = 8
level_of Multiply = 9
level_of Divide = 9
level_of Remainder = 9
level_of HighProduct = 9

-- a rotation binds as the shifts do
abbrev pub rotation_level : ℕ
rotation_level = 7

abbrev pub prefix_level : ℕ
prefix_level = 10

-- how strongly the left operand has to bind: operators of one level group to the left, but comparisons do not group
abbrev pub left_level_of : BinaryOperator → ℕ
left_level_of Equal = 4
left_level_of Unequal = 4
left_level_of Less = 4
left_level_of LessOrEqual = 4
left_level_of Greater = 4
left_level_of GreaterOrEqual = 4
left_level_of operator = level_of operator

-- the kind of number that a keyword converts to
abbrev pub conversion_of : TokenKind → Option Kind
conversion_of (token.Keyword Uint8) = Some Uint8Kind
conversion_of (token.Keyword Uint16) = Some Uint16Kind
conversion_of (token.Keyword Uint32) = Some Uint32Kind
conversion_of _ = None

-- the kind of number that a suffix names
abbrev pub suffix_kind : Option Suffix → Kind
suffix_kind (Some U8) = Uint8Kind
suffix_kind (Some U16) = Uint16Kind
suffix_kind (Some U32) = Uint32Kind
suffix_kind None = Uint32Kind

-- how an operand that begins with such a token begins
abbrev pub begins_of : TokenKind → Option OperandStart
begins_of (token.Number value suffix) = Some (by_number value suffix)
begins_of (token.Keyword True) = Some (by_truth true)
begins_of (token.Keyword False) = Some (by_truth false)
begins_of (token.Keyword Select) = Some by_select
begins_of (token.Keyword word) = option_map by_conversion (conversion_of (token.Keyword word))
begins_of token.Name = Some by_name
begins_of (token.Sign OpenRound) = Some by_bracket
begins_of (token.Sign sign) = option_map by_prefix (prefix_of (token.Sign sign))

-- what a sign between operands is
abbrev pub link_of : TokenKind → Option Link
link_of (token.Sign RotateLeft) = Some by_rotation
link_of kind = option_map by_operator (operator_of kind)

-- how strongly a sign between operands binds
abbrev pub link_level : Link → ℕ
link_level (by_operator operator) = level_of operator
link_level by_rotation = rotation_level

-- how strongly its left operand has to bind
abbrev pub link_left_level : Link → ℕ
link_left_level (by_operator operator) = left_level_of operator
link_left_level by_rotation = rotation_level
