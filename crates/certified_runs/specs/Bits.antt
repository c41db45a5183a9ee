-- Words of which some bits are unknown, and which bits of what an operation makes of them are unknown then: a row for
-- each operation, as the instruction table has one for its value.
use Rattle.std.specs.Prelude.{◌≡◌, ℕ, ◌-◌, ◌%◌, ◌^◌, ◌==◌, ◌&&◌, ◌||◌, Bool, true, false, not, nat_lt, bit_and}
use Rattle.std.specs.Prelude.{bit_or, bit_xor, if◌then◌else◌}
use Rattle.std.specs.Int.{bit_at}
use Rattle.rv_code.specs.Operations.{difference_of, shift_value, sum_of}
use Rattle.rv_code.specs.declared.operations.BranchTest.{BranchTest}
use Rattle.rv_code.specs.declared.operations.BranchTest.TheVariants.{Beq, Bge, Bgeu, Blt, Bltu, Bne}
use Rattle.rv_code.specs.declared.operations.DivideOperation.{DivideOperation}
use Rattle.rv_code.specs.declared.operations.ImmediateOperation.{ImmediateOperation}
use Rattle.rv_code.specs.declared.operations.ImmediateOperation.TheVariants.{Addi, Andi, Ori, Slti, Sltiu, Xori}
use Rattle.rv_code.specs.declared.operations.MultiplyOperation.{MultiplyOperation}
use Rattle.rv_code.specs.declared.operations.MultiplyOperation.TheVariants.{Mul}
use Rattle.rv_code.specs.declared.operations.RegisterOperation.{RegisterOperation}
use Rattle.rv_code.specs.declared.operations.RegisterOperation.TheVariants.{Add, And, Or, Sll, Slt, Sltu, Sra, Srl, Sub}
use Rattle.rv_code.specs.declared.operations.RegisterOperation.TheVariants.{Xor}
use Rattle.rv_code.specs.declared.operations.ShiftOperation.{ShiftOperation}
use Rattle.rv_code.specs.declared.operations.ShiftOperation.TheVariants.{Slli, Srai, Srli}
use Rattle.word.specs.Operators.{negated}
use Rattle.word.specs.declared.width.Width.TheVariants.{W32}
use Rattle.certified_runs.specs.declared.bits.PartialWord.{PartialWord}

-- two numbers that have the same bits but for those of a mask
pub record Agree (mask a b : ℕ) : Type 0 where
  pub bits : (i : ℕ) → bit_at mask i ≡ 0 → bit_at b i ≡ bit_at a i

-- a number of which the bits of a mask are unknown
abbrev pub partly : ℕ → ℕ → PartialWord
partly mask a = record { greatest = bit_or a mask; unknown = mask }

-- the least number that it may be, without the unknown bits, which the greatest has
abbrev pub least : PartialWord → ℕ
least a = bit_xor a.greatest a.unknown

-- whether all of its bits are known, and whether it is known to be 0
abbrev pub is_known : PartialWord → Bool
is_known a = a.unknown == 0

abbrev pub are_known : PartialWord → PartialWord → Bool
are_known a b = is_known a && is_known b

abbrev pub is_zero : PartialWord → Bool
is_zero a = a.greatest == 0

abbrev pub all_bits : ℕ
all_bits = 2 ^ 32 - 1

-- the unknown bits of what is known in some case, and else has any of these bits
abbrev pub unless : Bool → ℕ → ℕ
unless known bits = if known then 0 else bits

-- Bits by themselves.

-- of a conjunction one is unknown where an operand's is, and neither's is a known 0
abbrev pub and_unknown : PartialWord → PartialWord → ℕ
and_unknown a b = bit_and (bit_or a.unknown b.unknown) (bit_and a.greatest b.greatest)

-- of a disjunction, where an operand's is, and neither's is a known 1
abbrev pub or_unknown : PartialWord → PartialWord → ℕ
or_unknown a b =
    let ones = bit_or (least a) (least b) in bit_xor (bit_or (bit_or a.unknown b.unknown) ones) ones

-- of an exclusive disjunction, where an operand's is
abbrev pub xor_unknown : PartialWord → PartialWord → ℕ
xor_unknown a b = bit_or a.unknown b.unknown

-- Sums, differences and products.

-- a bit is unknown where an operand's is, or the carry into it, which is where the least sum and the greatest differ
abbrev pub sum_unknown : PartialWord → PartialWord → ℕ
sum_unknown a b =
    bit_or (bit_or a.unknown b.unknown) (bit_xor (sum_of (least a) (least b)) (sum_of a.greatest b.greatest))

-- or the borrow from it, which is where the least difference and the greatest differ
abbrev pub difference_unknown : PartialWord → PartialWord → ℕ
difference_unknown a b =
    bit_or (bit_or a.unknown b.unknown)
    (bit_xor (difference_of (least a) b.greatest) (difference_of a.greatest (least b)))

-- the lowest bit of a mask, and all above it
abbrev pub from_lowest : ℕ → ℕ
from_lowest mask = bit_or mask (negated W32 mask)

-- a known 0 makes every product 0
abbrev pub product_is_zero : PartialWord → PartialWord → Bool
product_is_zero a b = is_zero a || is_zero b

-- Comparisons.

-- whether one is less than the other in each case or in none: where it is the same at one end and at the other
abbrev pub decides_less : PartialWord → PartialWord → Bool
decides_less a b = nat_lt a.greatest (least b) || not (nat_lt (least a) b.greatest)

-- the word with its sign bit flipped, whose order is that of the words with signs
abbrev pub turned : PartialWord → PartialWord
turned a = partly a.unknown (bit_xor a.greatest (2 ^ 31))

abbrev pub decides_signed_less : PartialWord → PartialWord → Bool
decides_signed_less a b = decides_less (turned a) (turned b)

-- whether they are equal: where both are known, or a bit that is known of both differs
abbrev pub decides_equal : PartialWord → PartialWord → Bool
decides_equal a b =
    let mask = bit_or a.unknown b.unknown in mask == 0 || not (bit_or a.greatest mask == bit_or b.greatest mask)

-- whether what is known of two words decides a branch
abbrev pub decides_branch : BranchTest → PartialWord → PartialWord → Bool
decides_branch Beq a b = decides_equal a b
decides_branch Bne a b = decides_equal a b
decides_branch Blt a b = decides_signed_less a b
decides_branch Bge a b = decides_signed_less a b
decides_branch Bltu a b = decides_less a b
decides_branch Bgeu a b = decides_less a b

-- Shifts.

-- whether the low five bits are known, which a shift goes by
abbrev pub is_known_amount : PartialWord → Bool
is_known_amount amount = amount.unknown % 32 == 0

-- by a known amount the unknown bits move as the word's do; by another one all bits are unknown, unless the word is 0
abbrev pub shifted_unknown : ShiftOperation → PartialWord → PartialWord → ℕ
shifted_unknown operation a amount =
    if is_known_amount amount then shift_value operation a.unknown amount.greatest else unless (is_zero a) all_bits

-- The rows.

abbrev pub register_unknown : RegisterOperation → PartialWord → PartialWord → ℕ
register_unknown Add a b = sum_unknown a b
register_unknown Sub a b = difference_unknown a b
register_unknown Sll a b = shifted_unknown Slli a b
register_unknown Slt a b = unless (decides_signed_less a b) 1
register_unknown Sltu a b = unless (decides_less a b) 1
register_unknown Xor a b = xor_unknown a b
register_unknown Srl a b = shifted_unknown Srli a b
register_unknown Sra a b = shifted_unknown Srai a b
register_unknown Or a b = or_unknown a b
register_unknown And a b = and_unknown a b

-- whether an operation of a register with itself gives one number, whatever the register holds
abbrev pub cancels : RegisterOperation → Bool
cancels Sub = true
cancels Slt = true
cancels Sltu = true
cancels Xor = true
cancels _ = false

abbrev pub immediate_unknown : ImmediateOperation → PartialWord → PartialWord → ℕ
immediate_unknown Addi a b = sum_unknown a b
immediate_unknown Slti a b = unless (decides_signed_less a b) 1
immediate_unknown Sltiu a b = unless (decides_less a b) 1
immediate_unknown Xori a b = xor_unknown a b
immediate_unknown Ori a b = or_unknown a b
immediate_unknown Andi a b = and_unknown a b

-- the low word of a product is known below the lowest unknown bit of either operand
abbrev pub multiply_unknown : MultiplyOperation → PartialWord → PartialWord → ℕ
multiply_unknown Mul a b = unless (product_is_zero a b) (from_lowest (bit_or a.unknown b.unknown))
multiply_unknown _ a b = unless (product_is_zero a b || are_known a b) all_bits

abbrev pub divide_unknown : DivideOperation → PartialWord → PartialWord → ℕ
divide_unknown operation a b = unless (are_known a b) all_bits
