-- Bits of a word, as `(x >> b) & n` leaves them where n is ones alone. Two shifts leave the same: one up, past the bits
-- that the mask clears, and one down. A mask of 2,048 or more is held by no instruction, so they are one instruction
-- less.
use Rattle.std.specs.Prelude.{ℕ, ◌+◌, ◌-◌, ◌^◌, ◌==◌, ◌&&◌, ◌||◌, Bool, true, false, nat_le, nat_lt}
use Rattle.std.specs.Prelude.{Option, None, Some, if◌then◌else◌}
use Rattle.std.specs.Int.Count.{count_leading_zeros}
use Rattle.optimisation.specs.Below.{binary, BinaryOperator, BitAnd, bits, number, Place, ShiftLeft, ShiftRight}
use Rattle.optimisation.specs.Below.{TermTree, Width}
use Rattle.optimisation.specs.declared.constants.known.Constant.{Constant}
use Rattle.optimisation.specs.declared.constants.fields.BitField.{BitField}

-- how many high bits a mask of 32 bits clears, where it is ones alone
abbrev pub cleared_by : ℕ → Option ℕ
cleared_by n = let others = count_leading_zeros 32 n in
    if nat_lt others 32 && (n + 1 == 2 ^ (32 - others)) then Some others else None

-- how far the bits go up and down that are left of a word where it is moved down by an amount, and where then a mask
-- clears so many bits
abbrev pub field_within : Constant → ℕ → Option ℕ → Option BitField
field_within amount n None = None
field_within amount n (Some others) =
    if amount.value == others || (nat_lt amount.value others && nat_le 2048 n)
    then Some (record { up = others - amount.value; down = others; kind = amount.kind }) else None

-- by the mask and the amount, where both are numbers
abbrev pub field_of : Option Constant → Option Constant → Option BitField
field_of None amount = None
field_of (Some mask) None = None
field_of (Some mask) (Some amount) = field_within amount mask.value (cleared_by mask.value)

abbrev pub is_bit_and : BinaryOperator → Bool
is_bit_and BitAnd = true
is_bit_and _ = false

abbrev pub is_shift_right : BinaryOperator → Bool
is_shift_right ShiftRight = true
is_shift_right _ = false

-- what is on the right of a mask's operator
abbrev pub mask_of : BinaryOperator → Option Constant → Option Constant
mask_of operator right = if is_bit_and operator then right else None

-- by how much a word of 32 bits is moved down
abbrev pub amount_of : BinaryOperator → Width → Option Constant → Option Constant
amount_of operator width right = if is_shift_right operator && (bits width == 32) then right else None

-- a word, moved up where it has to be
abbrev pub lifted : Place → Width → TermTree → BitField → TermTree
lifted place width word field = if field.up == 0 then word
    else binary place ShiftLeft width word (number field.up field.kind)

-- and then down
abbrev pub moved : Place → Width → TermTree → BitField → TermTree
moved place width word field =
    binary place ShiftRight width (lifted place width word field) (number field.down field.kind)

-- so where there is a field, else an expression
abbrev pub moved_or : Option BitField → Place → Width → TermTree → TermTree → TermTree
moved_or None place width word e = e
moved_or (Some field) place width word e = moved place width word field
