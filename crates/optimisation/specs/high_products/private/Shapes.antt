-- Which expression is the upper word of the product of two words a and b. No sign of the language stands for it, and a
-- source makes it of the products of their halves:
--
--     (a >> 16) * (b >> 16)
--         + ((a >> 16) * (b & 0xffff) >> 16)
--         + ((a & 0xffff) * (b >> 16) >> 16)
--         + (((a & 0xffff) * (b & 0xffff) >> 16)
--             + ((a >> 16) * (b & 0xffff) & 0xffff)
--             + ((a & 0xffff) * (b >> 16) & 0xffff) >> 16)
use Rattle.std.specs.Prelude.{ℕ, ◌==◌, ◌&&◌, Bool, true, false, Option, None, Some, if◌then◌else◌}
use Rattle.std.specs.Bool.{then_some}
use Rattle.std.specs.Option.{option_and_then}
use Rattle.optimisation.specs.Below.{Add, binary, BinaryOperator, bits, Multiply, number, TermTree}
use Rattle.optimisation.specs.constants.private.Fields.{is_bit_and, is_shift_right}
use Rattle.optimisation.specs.constants.private.Simplification.{variable_of}
use Rattle.optimisation.specs.declared.high_products.shapes.Factors.{Factors}
use Rattle.optimisation.specs.declared.high_products.shapes.Half.{Half}
use Rattle.optimisation.specs.declared.high_products.shapes.Half.TheVariants.{High, Low}

abbrev pub is_add : BinaryOperator → Bool
is_add Add = true
is_add _ = false

abbrev pub is_multiply : BinaryOperator → Bool
is_multiply Multiply = true
is_multiply _ = false

-- a test of expressions
abbrev pub Shape : Type 0
Shape = TermTree → Bool

-- this number
abbrev pub is_number : ℕ → Shape
is_number n (number value kind) = value == n
is_number n e = false

-- an operator of 32 bits between what passes two tests
abbrev pub is_operation : (BinaryOperator → Bool) → Shape → Shape → Shape
is_operation is one other (binary place operator width left right) =
    is operator && (bits width == 32) && one left && other right
is_operation is one other e = false

-- Halves of words.

-- which variable's word it is the high half of, `x >> 16`
abbrev pub high_half : TermTree → Option ℕ
high_half (binary place operator width left right) =
    if is_shift_right operator && (bits width == 32) && is_number 16 right then variable_of left else None
high_half e = None

-- or the low half, `x & 0xffff`
abbrev pub low_half : TermTree → Option ℕ
low_half (binary place operator width left right) =
    if is_bit_and operator && (bits width == 32) && is_number 65535 right then variable_of left else None
low_half e = None

-- this variable, where there is one
abbrev pub is_found : ℕ → Option ℕ → Bool
is_found x None = false
is_found x (Some y) = y == x

abbrev pub is_half : Half → Shape
is_half (High x) e = is_found x (high_half e)
is_half (Low x) e = is_found x (low_half e)

-- Products of two halves, and the halves of such products.

abbrev pub is_product : Half → Half → Shape
is_product one other = is_operation is_multiply (is_half one) (is_half other)

abbrev pub is_upper : Half → Half → Shape
is_upper one other = is_operation is_shift_right (is_product one other) (is_number 16)

abbrev pub is_lower : Half → Half → Shape
is_lower one other = is_operation is_bit_and (is_product one other) (is_number 65535)

-- What is carried into the upper word: the last two lines.

abbrev pub is_first_sum : Factors → Shape
is_first_sum f = is_operation is_add (is_upper (Low f.one) (Low f.other)) (is_lower (High f.one) (Low f.other))

abbrev pub is_second_sum : Factors → Shape
is_second_sum f = is_operation is_add (is_first_sum f) (is_lower (Low f.one) (High f.other))

abbrev pub is_carry : Factors → Shape
is_carry f = is_operation is_shift_right (is_second_sum f) (is_number 16)

-- The upper word: which factors a sum is of, from the first product on.

abbrev pub factors : Option ℕ → Option ℕ → Option Factors
factors one other = option_and_then (λ a. option_and_then (λ b. Some (record { one = a; other = b })) other) one

abbrev pub of_product : TermTree → Option Factors
of_product (binary place operator width left right) =
    if is_multiply operator && (bits width == 32) then factors (high_half left) (high_half right) else None
of_product e = None

-- of a sum whose left side has them, and whose right side passes a test for them
abbrev pub of_sum : (TermTree → Option Factors) → (Factors → Shape) → TermTree → Option Factors
of_sum found also (binary place operator width left right) =
    if is_add operator && (bits width == 32) then option_and_then (λ f. then_some (also f right) f) (found left)
    else None
of_sum found also e = None

abbrev pub of_two : TermTree → Option Factors
of_two = of_sum of_product (λ f. is_upper (High f.one) (Low f.other))

abbrev pub of_three : TermTree → Option Factors
of_three = of_sum of_two (λ f. is_upper (Low f.one) (High f.other))

-- of which variables an expression is the upper word of the product, where it is one
abbrev pub upper_word : TermTree → Option Factors
upper_word = of_sum of_three is_carry
