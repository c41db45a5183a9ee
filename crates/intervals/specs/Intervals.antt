-- Intervals: between which numbers the value of an expression lies, whatever run it is.
use Rattle.std.specs.Prelude.{ℕ, ◌+◌, ◌-◌, ◌*◌, ◌/◌, ◌%◌, ◌^◌, ◌==◌, ◌&&◌, nat_le, min, max, List, Option, None, Some}
use Rattle.std.specs.Prelude.{unwrap_or, if◌then◌else◌, slice_get, slice_set}
use Rattle.std.specs.Option.{option_map}
use Rattle.intervals.specs.Below.{Add, binary, BinaryOperator, BitAnd, bits, bits_of, LogicalAnd, Complement, convert}
use Rattle.intervals.specs.Below.{Divide, LogicalOr, element, Equal, FlatVariable, Greater, GreaterOrEqual, Interval}
use Rattle.intervals.specs.Below.{Kind, Less, LessOrEqual, Multiply, Negate, Not, number, prefix, PrefixOperator}
use Rattle.intervals.specs.Below.{Remainder, rotate, select, ShiftRight, Subtract, TermTree, truth, Uint32, Unequal}
use Rattle.intervals.specs.Below.{variable, Width}

abbrev pub between : ℕ → ℕ → Interval
between low high = record { low = low; high = high }

-- all numbers of a width; a bool is 0 or 1
abbrev pub greatest : Width → ℕ
greatest width = 2 ^ bits width - 1

abbrev pub full : Width → Interval
full width = between 0 (greatest width)

abbrev pub full_of : Kind → Interval
full_of kind = between 0 (2 ^ bits_of kind - 1)

abbrev pub either_truth : Interval
either_truth = between 0 1

-- What is known of the variables, at their numbers: an interval for each that keeps its value, which is a public word
-- that is not `mut`.
abbrev pub Bounds : Type 0
Bounds = List (Option Interval)

-- what is known of one
abbrev pub known : Bounds → ℕ → Option Interval
known bounds x = unwrap_or (slice_get bounds x) None

-- from here on this is known of it
abbrev pub with_bound : Bounds → ℕ → Interval → Bounds
with_bound bounds x i = slice_set bounds x (Some i)

-- the numbers from one to another, where they fit the width
abbrev pub fitting : Width → ℕ → ℕ → Interval
fitting width low high = if nat_le low (greatest width) && nat_le high (greatest width) then between low high
    else full width

-- a quotient by a power of two, where the amount is one number
abbrev pub shifted_interval : Interval → Interval → Interval
shifted_interval a b =
    if b.low == b.high then between (a.low / 2 ^ (b.low % 32)) (a.high / 2 ^ (b.low % 32)) else between 0 a.high

-- what an operator makes of two intervals, the left of this width
abbrev pub operated_interval : BinaryOperator → Width → Interval → Interval → Interval
operated_interval LogicalOr w a b = either_truth
operated_interval LogicalAnd w a b = either_truth
operated_interval Equal w a b = either_truth
operated_interval Unequal w a b = either_truth
operated_interval Less w a b = either_truth
operated_interval LessOrEqual w a b = either_truth
operated_interval Greater w a b = either_truth
operated_interval GreaterOrEqual w a b = either_truth
operated_interval BitAnd w a b = between 0 (min a.high b.high)
operated_interval ShiftRight w a b = shifted_interval a b
operated_interval Add w a b = fitting w (a.low + b.low) (a.high + b.high)
operated_interval Subtract w a b = if nat_le b.high a.low then between (a.low - b.high) (a.high - b.low) else full w
operated_interval Multiply w a b = fitting w (a.low * b.low) (a.high * b.high)
operated_interval Divide w a b = if nat_le 1 b.low && nat_le 1 b.high then between (a.low / b.high) (a.high / b.low)
    else full w
operated_interval Remainder w a b = if nat_le 1 b.low then between 0 (min a.high (b.high - 1)) else full w
operated_interval operator w a b = full w

abbrev pub prefix_interval : PrefixOperator → Width → Interval
prefix_interval Not w = either_truth
prefix_interval Complement w = full w
prefix_interval Negate w = full w

-- a number of another kind: unchanged where all of it fits
abbrev pub converted_interval : Kind → Interval → Interval
converted_interval kind i = if nat_le i.high (2 ^ bits_of kind - 1) then i else full_of kind

-- the least interval around two
abbrev pub hull : Interval → Interval → Interval
hull a b = between (min a.low b.low) (max a.high b.high)

-- all that a variable, or an element of an array, may be
abbrev pub full_at : List FlatVariable → ℕ → Interval
full_at declared x = unwrap_or (option_map (λ (d : FlatVariable). full_of d.word.kind) (slice_get declared x))
    (full_of Uint32)

-- the interval of an expression, where the variables are declared so and this is known of them
abbrev pub interval : List FlatVariable → Bounds → TermTree → Interval
interval declared bounds (number value kind) = between value value
interval declared bounds (truth value) = either_truth
interval declared bounds (variable x) = unwrap_or (known bounds x) (full_at declared x)
interval declared bounds (prefix operator width operand) = prefix_interval operator width
interval declared bounds (binary place operator width left right) =
    operated_interval operator width (interval declared bounds left) (interval declared bounds right)
interval declared bounds (rotate width operand amount) = full width
interval declared bounds (convert kind operand) = converted_interval kind (interval declared bounds operand)
interval declared bounds (select condition accepted otherwise) =
    hull (interval declared bounds accepted) (interval declared bounds otherwise)
interval declared bounds (element place x size index) = full_at declared x
