-- What operations make of words are words.
use Rattle.std.proofs.Common.{◌≡◌, ℕ, zero, suc, ◌+◌, ◌-◌, ◌*◌, ◌/◌, ◌%◌, ◌^◌, ◌<◌, ◌≤◌, Bool, true, false}
use Rattle.std.proofs.Common.{refl, sym, subst, ap, inl, inr, arith}
use Rattle.std.specs.Prelude.{ℤ, pos, negsuc, neg_ℤ, ◌*ℤ◌, int_div, int_rem, nat_eq, unsigned_abs}
use Rattle.std.proofs.Math.Nat.{div-le_self, mod-le}
use Rattle.std.proofs.lemmas.Bool.{cases_lt, cond_both}
use Rattle.std.proofs.lemmas.Int.{unsigned_abs-mul}
use Rattle.std.proofs.lemmas.Nat.{and_le_l, div_below, mod_below, mul-le, mul-lt, or_lt, pow_pos, shr_below, xor_lt}
use Rattle.rv_code.specs.Operations.{divide_value, immediate_value, loaded_value, multiply_value, register_value}
use Rattle.rv_code.specs.Operations.{shift_value, upper_value}
use Rattle.rv_code.specs.Signed.{high_word, shifted_signed, signed, word_for}
use Rattle.rv_code.specs.declared.operations.DivideOperation.{DivideOperation}
use Rattle.rv_code.specs.declared.operations.DivideOperation.TheVariants.{Div, Divu, Rem, Remu}
use Rattle.rv_code.specs.declared.operations.ImmediateOperation.{ImmediateOperation}
use Rattle.rv_code.specs.declared.operations.ImmediateOperation.TheVariants.{Addi, Andi, Ori, Slti, Sltiu, Xori}
use Rattle.rv_code.specs.declared.operations.LoadOperation.{LoadOperation}
use Rattle.rv_code.specs.declared.operations.LoadOperation.TheVariants.{Lb, Lbu, Lh, Lhu, Lw}
use Rattle.rv_code.specs.declared.operations.MultiplyOperation.{MultiplyOperation}
use Rattle.rv_code.specs.declared.operations.MultiplyOperation.TheVariants.{Mul, Mulh, Mulhsu, Mulhu}
use Rattle.rv_code.specs.declared.operations.RegisterOperation.{RegisterOperation}
use Rattle.rv_code.specs.declared.operations.RegisterOperation.TheVariants.{Add, And, Or, Sll, Slt, Sltu, Sra, Srl, Sub}
use Rattle.rv_code.specs.declared.operations.RegisterOperation.TheVariants.{Xor}
use Rattle.rv_code.specs.declared.operations.ShiftOperation.{ShiftOperation}
use Rattle.rv_code.specs.declared.operations.ShiftOperation.TheVariants.{Slli, Srai, Srli}
use Rattle.rv_code.specs.declared.operations.UpperOperation.{UpperOperation}
use Rattle.rv_code.specs.declared.operations.UpperOperation.TheVariants.{Auipc, Lui}
use Rattle.word.specs.Operators.{word_of}
use Rattle.certified_runs.proofs.ShiftedBits.{extended_fits, signed_high, signed_low, signed_shift}

wrapped_fits : (n : ℕ) → n % 2 ^ 32 < 2 ^ 32
wrapped_fits n = mod_below n (2 ^ 32) (pow_pos 32)

test_fits : (b : Bool) → word_of b < 2 ^ 32
test_fits true = omega arith
test_fits false = omega arith

-- Numbers with signs.

signed_small : (a : ℕ) → a < 2 ^ 32 → unsigned_abs (signed a) ≤ 2 ^ 31
signed_small a fits = elim (cases_lt a (2 ^ 31)) [
  | inl low ↦ omega (arith, ap unsigned_abs (signed_low a low), low)
  | inr high ↦ omega (arith, ap unsigned_abs (signed_high a high), high)
]

word_fits : (z : ℤ) → unsigned_abs z < 2 ^ 32 → word_for z < 2 ^ 32
word_fits (pos n) small = small
word_fits (negsuc n) small = omega arith

high_fits : (z : ℤ) → unsigned_abs z < 2 ^ 32 * 2 ^ 32 → high_word z < 2 ^ 32
high_fits (pos n) small = div_below n (2 ^ 32) (2 ^ 32) (pow_pos 32) small
high_fits (negsuc n) small = omega arith

neg_small : (n : ℕ) → unsigned_abs (neg_ℤ (pos n)) ≡ n
neg_small zero = refl
neg_small (suc n) = refl

quotient_small : (a b : ℤ) → unsigned_abs (int_div a b) ≤ unsigned_abs a
quotient_small (pos a) (pos b) = div-le_self a b
quotient_small (pos a) (negsuc b) = omega (arith, neg_small (a / suc b), div-le_self a (suc b))
quotient_small (negsuc a) (pos b) = omega (arith, neg_small (suc a / b), div-le_self (suc a) b)
quotient_small (negsuc a) (negsuc b) = div-le_self (suc a) (suc b)

rest_small : (a b : ℤ) → unsigned_abs (int_rem a b) ≤ unsigned_abs a
rest_small (pos a) b = mod-le a (unsigned_abs b)
rest_small (negsuc a) b =
    omega (arith, neg_small (suc a % unsigned_abs b), mod-le (suc a) (unsigned_abs b))

shifted_fits : (a k : ℕ) → a < 2 ^ 32 → shifted_signed a k < 2 ^ 32
shifted_fits a k fits =
    let j = k % 32 in
    let n = 32 - j in
    let bits : 32 ≡ n + j = omega arith in
    let some : 0 < n = omega arith in
    let few : n ≤ 32 = omega arith in
    subst (λ x. x < 2 ^ 32) (sym (signed_shift a k fits))
    (extended_fits n (a / 2 ^ j) some few (shr_below a n j (subst (λ x. a < 2 ^ x) bits fits)))

-- The rows of the instruction table.

pub upper_fits : (operation : UpperOperation) (pc immediate : ℕ) → immediate < 2 ^ 20
    → upper_value operation pc immediate < 2 ^ 32
upper_fits Lui pc immediate fits = omega (arith, fits)
upper_fits Auipc pc immediate fits = wrapped_fits _

pub loaded_fits : (operation : LoadOperation) (v : ℕ) → v < 2 ^ 32 → loaded_value operation v < 2 ^ 32
loaded_fits Lb v fits = extended_fits 8 (v % 2 ^ 8) (omega arith) (omega arith) (mod_below v (2 ^ 8) (pow_pos 8))
loaded_fits Lh v fits = extended_fits 16 (v % 2 ^ 16) (omega arith) (omega arith) (mod_below v (2 ^ 16) (pow_pos 16))
loaded_fits Lw v fits = fits
loaded_fits Lbu v fits = fits
loaded_fits Lhu v fits = fits

pub shift_fits : (operation : ShiftOperation) (a k : ℕ) → a < 2 ^ 32 → shift_value operation a k < 2 ^ 32
shift_fits Slli a k fits = wrapped_fits _
shift_fits Srli a k fits = wrapped_fits _
shift_fits Srai a k fits = shifted_fits a k fits

pub immediate_fits : (operation : ImmediateOperation) (a b : ℕ) → a < 2 ^ 32 → b < 2 ^ 32
    → immediate_value operation a b < 2 ^ 32
immediate_fits Addi a b fits fits' = wrapped_fits _
immediate_fits Slti a b fits fits' = test_fits _
immediate_fits Sltiu a b fits fits' = test_fits _
immediate_fits Xori a b fits fits' = xor_lt 32 a b fits fits'
immediate_fits Ori a b fits fits' = or_lt 32 a b fits fits'
immediate_fits Andi a b fits fits' = omega (arith, and_le_l a b, fits)

pub register_fits : (operation : RegisterOperation) (a b : ℕ) → a < 2 ^ 32 → b < 2 ^ 32
    → register_value operation a b < 2 ^ 32
register_fits Add a b fits fits' = wrapped_fits _
register_fits Sub a b fits fits' = wrapped_fits _
register_fits Sll a b fits fits' = wrapped_fits _
register_fits Slt a b fits fits' = test_fits _
register_fits Sltu a b fits fits' = test_fits _
register_fits Xor a b fits fits' = xor_lt 32 a b fits fits'
register_fits Srl a b fits fits' = wrapped_fits _
register_fits Sra a b fits fits' = shifted_fits a b fits
register_fits Or a b fits fits' = or_lt 32 a b fits fits'
register_fits And a b fits fits' = omega (arith, and_le_l a b, fits)

pub multiply_fits : (operation : MultiplyOperation) (a b : ℕ) → a < 2 ^ 32 → b < 2 ^ 32
    → multiply_value operation a b < 2 ^ 32
multiply_fits Mul a b fits fits' = wrapped_fits _
multiply_fits Mulh a b fits fits' =
    high_fits (signed a *ℤ signed b) (omega (
      arith,
      unsigned_abs-mul (signed a) (signed b),
      mul-le (unsigned_abs (signed a)) (unsigned_abs (signed b)) (2 ^ 31) (2 ^ 31) (signed_small a fits)
          (signed_small b fits'),
    ))
multiply_fits Mulhsu a b fits fits' =
    high_fits (signed a *ℤ pos b) (omega (
      arith,
      unsigned_abs-mul (signed a) (pos b),
      mul-le (unsigned_abs (signed a)) b (2 ^ 31) (2 ^ 32) (signed_small a fits) (omega (arith, fits')),
    ))
multiply_fits Mulhu a b fits fits' =
    div_below (a * b) (2 ^ 32) (2 ^ 32) (pow_pos 32) (mul-lt a b (2 ^ 32) (2 ^ 32) fits fits')

pub divide_fits : (operation : DivideOperation) (a b : ℕ) → a < 2 ^ 32 → divide_value operation a b < 2 ^ 32
divide_fits Div a b fits =
    cond_both (nat_eq b 0) (2 ^ 32 - 1) (word_for (int_div (signed a) (signed b))) (λ x. x < 2 ^ 32)
    (λ is. omega arith)
    (λ is. word_fits (int_div (signed a) (signed b))
    (omega (arith, quotient_small (signed a) (signed b), signed_small a fits)))
divide_fits Divu a b fits =
    cond_both (nat_eq b 0) (2 ^ 32 - 1) (a / b) (λ x. x < 2 ^ 32) (λ is. omega arith)
    (λ is. omega (arith, div-le_self a b, fits))
divide_fits Rem a b fits =
    cond_both (nat_eq b 0) a (word_for (int_rem (signed a) (signed b))) (λ x. x < 2 ^ 32) (λ is. fits)
    (λ is. word_fits (int_rem (signed a) (signed b))
    (omega (arith, rest_small (signed a) (signed b), signed_small a fits)))
divide_fits Remu a b fits =
    cond_both (nat_eq b 0) a (a % b) (λ x. x < 2 ^ 32) (λ is. fits) (λ is. omega (arith, mod-le a b, fits))
