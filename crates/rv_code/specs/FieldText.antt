-- The assembly text of operands.
use Rattle.std.specs.Prelude.{ℕ, ◌-◌, ◌*◌, ◌^◌, List, [], ◌++◌, codes, false}
use Rattle.std.specs.Fmt.{decimal, signed_decimal, digits, padded_integral, format_spec}
use Rattle.rv_code.specs.Signed.{signed_value}

abbrev pub reg_text : ℕ → List ℕ
reg_text number = codes "x" ++ decimal number

abbrev pub immediate_text : ℕ → List ℕ
immediate_text field = signed_decimal (signed_value 12 field)

-- offsets are held in halves

abbrev pub branch_offset_text : ℕ → List ℕ
branch_offset_text halves = signed_decimal (signed_value 13 (halves * 2))

abbrev pub jump_offset_text : ℕ → List ℕ
jump_offset_text halves = signed_decimal (signed_value 21 (halves * 2))

-- `0x` and five hexadecimal digits, in lower case: the number in base 16, filled up with zeros to 5 places
abbrev pub upper_text : ℕ → List ℕ
upper_text field = codes "0x" ++ padded_integral (format_spec 32 0 4 5 (2 ^ 64 - 1)) false [] (digits 16 false field)
