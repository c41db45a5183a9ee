-- Operators with a number in the instruction: where the other operand is a number that its instruction holds, or one
-- that shifts make up for, an operator is a row too, of what is made of a register.
use Rattle.std.specs.Prelude.{ℕ, ◌+◌, ◌-◌, ◌%◌, ◌^◌, ◌==◌, Bool, false, ◌&&◌, ◌||◌, Option, None, Some, nat_lt}
use Rattle.std.specs.Prelude.{if◌then◌else◌}
use Rattle.std.specs.Int.Count.{count_leading_zeros}
use Rattle.expression_code.specs.Allocation.{Allocation}
use Rattle.expression_code.specs.declared.numbers.Finish.TheVariants as finish
use Rattle.expression_code.specs.declared.numbers.Finish.{Finish}
use Rattle.expression_code.specs.declared.numbers.NumberRow.{NumberRow}
use Rattle.expression_code.specs.declared.numbers.NumberStep.TheVariants.{WithImmediate, ByAmount, AboveZero}
use Rattle.expression_code.specs.declared.numbers.NumberStep.TheVariants.{KeepsLow}
use Rattle.expression_code.specs.Below.{Addi, Andi, BinaryOperator, ImmediateOperation, negated, number, Ori}
use Rattle.expression_code.specs.Below.{ShiftOperation}
use Rattle.expression_code.specs.Below.{Slli, Sltiu, Srli, TermTree, truth, swapped_of, W32, Width, Xori}
use Rattle.language.specs.declared.operators.BinaryOperator.TheVariants as operators
use Rattle.language.specs.declared.operators.PrefixOperator.{PrefixOperator}
use Rattle.language.specs.declared.operators.PrefixOperator.TheVariants as prefixes
use Rattle.word.specs.Operators.{word_of}

-- the word that an expression is known to be
abbrev pub number_of : TermTree → Option ℕ
number_of (number value kind) = Some value
number_of (truth value) = Some (word_of value)
number_of e = None

-- what 12 bits hold with a sign, in two's complement: a word that is less than 2048, or less than 0 by 2048 at most
abbrev pub is_short : ℕ → Bool
is_short n = nat_lt n 2048 || (nat_lt (2 ^ 32 - 2049) n && nat_lt n (2 ^ 32))

-- an instruction with a number, where it holds it, and what is made of its outcome
abbrev pub held : ImmediateOperation → Finish → ℕ → Option NumberRow
held operation finish n =
    if is_short n then Some (record { finish = finish; step = WithImmediate operation (n % 4096) }) else None

-- a shift by an amount, of which the low five bits count
abbrev pub shifted : ShiftOperation → ℕ → NumberRow
shifted operation n = record { finish = finish.Narrowed; step = ByAmount operation (n % 32) }

-- whether it is more than 0
abbrev pub above_zero : NumberRow
above_zero = record { finish = finish.Alone; step = AboveZero }

-- the low bits, where the number is all ones below its leading zeros: so many others are moved out
abbrev pub low_bits : ℕ → Option NumberRow
low_bits n = let others = count_leading_zeros 32 n in if n + 1 == 2 ^ (32 - others)
    then Some (record { finish = finish.Alone; step = KeepsLow (others % 32) }) else None

-- the bits that a number has
abbrev pub masked : ℕ → Option NumberRow
masked n = if is_short n then held Andi finish.Alone n else low_bits n

-- A number is taken away by adding its negative. Whether numbers are equal is read off their difference, and at most
-- a number is less than the next one.
abbrev pub number_row : BinaryOperator → ℕ → Option NumberRow
number_row operators.Equal n = if n == 0 then held Sltiu finish.Alone 1
    else held Addi finish.GivesZero (negated W32 n)
number_row operators.Unequal n = if n == 0 then Some above_zero else held Addi finish.GivesMore (negated W32 n)
number_row operators.Less n = held Sltiu finish.Alone n
number_row operators.LessOrEqual n = held Sltiu finish.Alone (n + 1)
number_row operators.Greater n = if n == 0 then Some above_zero else held Sltiu finish.GivesZero (n + 1)
number_row operators.GreaterOrEqual n = held Sltiu finish.GivesZero n
number_row operators.BitOr n = held Ori finish.Alone n
number_row operators.BitXor n = held Xori finish.Alone n
number_row operators.BitAnd n = masked n
number_row operators.ShiftLeft n = Some (shifted Slli n)
number_row operators.ShiftRight n = Some (shifted Srli n)
number_row operators.Add n = held Addi finish.Narrowed n
number_row operators.Subtract n = held Addi finish.Narrowed (negated W32 n)
number_row operator n = None

-- the row of an operator and a number, where there are both
abbrev pub known_row : Option BinaryOperator → Option ℕ → Option NumberRow
known_row None n = None
known_row (Some operator) None = None
known_row (Some operator) (Some n) = number_row operator n

-- the row of an operator whose right operand is this expression, where numbers go into instructions, and of one whose
-- left operand it is
abbrev pub right_row : Allocation → BinaryOperator → TermTree → Option NumberRow
right_row allocation operator e = if allocation.immediates then known_row (Some operator) (number_of e) else None

abbrev pub left_row : Allocation → BinaryOperator → TermTree → Option NumberRow
left_row allocation operator e = if allocation.immediates
    then known_row (swapped_of operator) (number_of e) else None

-- whether a word is known, and is this number
abbrev pub is_known : ℕ → Option ℕ → Bool
is_known n None = false
is_known n (Some m) = m == n

-- whether a choice, whose third operand is this expression, is one between a value and 0, where numbers go into
-- instructions
abbrev pub chooses_zero : Allocation → TermTree → Bool
chooses_zero allocation e = allocation.immediates && is_known 0 (number_of e)

-- whether an operator before another one, whose right operand is this expression, makes 0 less a word that is moved
-- down by 31 bits, where numbers go into instructions
abbrev pub is_sign : Allocation → PrefixOperator → Width → BinaryOperator → TermTree → Bool
is_sign allocation prefixes.Negate W32 operators.ShiftRight amount =
    allocation.immediates && is_known 31 (number_of amount)
is_sign allocation before width operator right = false
