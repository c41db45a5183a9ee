-- Powers of two: a product with one is a shift up, a quotient by one is a shift down, and a remainder by one is the low
-- bits. A shift and a mask that an instruction holds take one instruction and no time of a divider.
use Rattle.std.specs.Prelude.{ℕ, ◌-◌, ◌^◌, ◌==◌, ◌&&◌, nat_lt, Option, None, Some, if◌then◌else◌}
use Rattle.std.specs.Int.Count.{count_trailing_zeros}
use Rattle.std.specs.Option.{option_and_then}
use Rattle.optimisation.specs.Below.{BinaryOperator, BitAnd, Divide, Multiply, Remainder, ShiftLeft}
use Rattle.optimisation.specs.Below.{ShiftRight, Uint32}
use Rattle.optimisation.specs.declared.constants.known.Constant.{Constant}
use Rattle.optimisation.specs.declared.constants.powers.OperatorStep.{OperatorStep}

-- which power of two a number of 32 bits is, where it is one
abbrev pub exponent_of : ℕ → Option ℕ
exponent_of n = let k = count_trailing_zeros 32 n in if nat_lt k 32 && (n == 2 ^ k) then Some k else None

-- what makes the same as an operator with 2 ^ k on its right; an amount is of 32 bits, and a mask as wide as the power
abbrev pub step_by : BinaryOperator → Constant → ℕ → Option OperatorStep
step_by Multiply power k = Some (record { operator = ShiftLeft; number = record { value = k; kind = Uint32 } })
step_by Divide power k = Some (record { operator = ShiftRight; number = record { value = k; kind = Uint32 } })
step_by Remainder power k =
    Some (record { operator = BitAnd; number = record { value = power.value - 1; kind = power.kind } })
step_by _ power k = None

-- by the right operand, where that is a number
abbrev pub step_of : BinaryOperator → Option Constant → Option OperatorStep
step_of operator None = None
step_of operator (Some power) = option_and_then (step_by operator power) (exponent_of power.value)

-- by the left operand: only a product is the same with its operands swapped
abbrev pub swapped_step : BinaryOperator → Option Constant → Option OperatorStep
swapped_step Multiply left = step_of Multiply left
swapped_step _ left = None
