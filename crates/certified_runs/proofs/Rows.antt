-- Each row of the table of unknown bits covers what its operation makes of words that agree.
use Rattle.std.proofs.Common.{◌≡◌, ℕ, zero, suc, ◌-◌, ◌*◌, ◌/◌, ◌%◌, ◌^◌, ◌<◌, ◌≤◌, Bool, true, false, nat_lt}
use Rattle.std.proofs.Common.{bit_or, refl, sym, subst, ap, ap₂, ◌∙◌, inl, inr, arith}
use Rattle.std.specs.Prelude.{ℤ, pos, negsuc, neg_ℤ, ◌*ℤ◌, ◌||◌, nat_eq, int_lt}
use Rattle.std.proofs.Math.Nat.{zero-div}
use Rattle.std.proofs.lemmas.Bool.{and_parts, cases_lt, cond_both, eqb-true, le-ltb, or_cases}
use Rattle.std.proofs.lemmas.Nat.{le_or_l, le_or_r, mod_below, pow_pos}
use Rattle.std.specs.Int.{bit_at, int_shr}
use Rattle.std.specs.Int.Bits.{xor_self}
use Rattle.std.proofs.lemmas.Nat.Bits.{bit_at_above, bit_at_lowest, bit_at_ones, bit_at_or}
use Rattle.rv_code.specs.Operations.{divide_value, immediate_value, loaded_value, multiply_value, register_value}
use Rattle.rv_code.specs.Operations.{shift_value}
use Rattle.rv_code.specs.Signed.{high_word, shifted_signed, signed, signed_less, word_for}
use Rattle.rv_code.specs.declared.operations.DivideOperation.{DivideOperation}
use Rattle.rv_code.specs.declared.operations.ImmediateOperation.{ImmediateOperation}
use Rattle.rv_code.specs.declared.operations.ImmediateOperation.TheVariants.{Addi, Andi, Ori, Slti, Sltiu, Xori}
use Rattle.rv_code.specs.declared.operations.LoadOperation.{LoadOperation}
use Rattle.rv_code.specs.declared.operations.LoadOperation.TheVariants.{Lb, Lbu, Lh, Lhu, Lw}
use Rattle.rv_code.specs.declared.operations.MultiplyOperation.{MultiplyOperation}
use Rattle.rv_code.specs.declared.operations.MultiplyOperation.TheVariants.{Mul, Mulh, Mulhsu, Mulhu}
use Rattle.rv_code.specs.declared.operations.RegisterOperation.{RegisterOperation}
use Rattle.rv_code.specs.declared.operations.RegisterOperation.TheVariants.{Add, And, Or, Sll, Slt, Sltu, Sra, Srl, Sub}
use Rattle.rv_code.specs.declared.operations.RegisterOperation.TheVariants.{Xor}
use Rattle.rv_code.specs.declared.operations.ShiftOperation.{ShiftOperation}
use Rattle.rv_code.specs.declared.operations.ShiftOperation.TheVariants.{Slli, Srai, Srli}
use Rattle.word.specs.Operators.{word_of}
use Rattle.certified_runs.specs.Bits.{Agree, all_bits, are_known, cancels, decides_less, decides_signed_less, divide_unknown}
use Rattle.certified_runs.specs.Bits.{from_lowest, immediate_unknown, is_known_amount, is_zero, multiply_unknown, partly}
use Rattle.certified_runs.specs.Bits.{product_is_zero, register_unknown, shifted_unknown, unless}
use Rattle.certified_runs.proofs.Agreeing.{agree_itself, and_agrees, or_agrees, same_known, xor_agrees}
use Rattle.certified_runs.proofs.Carries.{difference_agrees, product_agrees, same_low, sum_agrees}
use Rattle.certified_runs.proofs.Orders.{less_agrees, signed_less_agrees}
use Rattle.certified_runs.proofs.ShiftedBits.{extended_agrees, left_agrees, low_agrees, right_agrees, signed_agrees, signed_high}
use Rattle.certified_runs.proofs.Words.{divide_fits, multiply_fits, shift_fits}

-- words agree where any of their bits may be unknown
pub all_agree : (a b : ℕ) → a < 2 ^ 32 → b < 2 ^ 32 → Agree all_bits a b
all_agree a b fits fits' = record {
  bits = λ i none. elim (cases_lt i 32) [
    | inl within ↦ absurd (omega (arith, none, bit_at_ones 32 i within))
    | inr from ↦ bit_at_above b 32 i fits' from ∙ sym (bit_at_above a 32 i fits from)
  ];
}

-- one number agrees with itself
pub one_agrees : (mask a b : ℕ) → b ≡ a → Agree mask a b
one_agrees mask a b is = subst (λ x. Agree mask a x) (sym is) (agree_itself mask a)

pub unless_agrees : (known : Bool) (mask a b : ℕ) → (known ≡ true → b ≡ a) → Agree mask a b → Agree (unless known mask) a b
unless_agrees true mask a b same agree = one_agrees 0 a b (same refl)
unless_agrees false mask a b same agree = agree

-- tests are 0 or 1
test_small : (s : Bool) → word_of s < 2 ^ 1
test_small true = omega arith
test_small false = omega arith

tests_agree : (s t : Bool) → Agree 1 (word_of s) (word_of t)
tests_agree s t = record { bits = each }
  where
    each : (i : ℕ) → bit_at 1 i ≡ 0 → bit_at (word_of t) i ≡ bit_at (word_of s) i
    each zero none = absurd (omega (arith, none, bit_at_lowest 1))
    each (suc i) none =
        bit_at_above (word_of t) 1 (suc i) (test_small t) (omega arith)
        ∙ sym (bit_at_above (word_of s) 1 (suc i) (test_small s) (omega arith))

-- what is known to be 0
known_zero : {mask a b : ℕ} → Agree mask a b → is_zero (partly mask a) ≡ true → (a ≡ 0) × (b ≡ 0)
known_zero {mask} {a} {b} agree is =
    let none = eqb-true (bit_or a mask) 0 is in
    let a-none : a ≡ 0 = omega (arith, none, le_or_l a mask) in
    let mask-none : mask ≡ 0 = omega (arith, none, le_or_r a mask) in
    (a-none, same_known (subst (λ m. Agree m a b) mask-none agree) ∙ a-none)

pub both_known : {p q a b c d : ℕ} → Agree p a c → Agree q b d → are_known (partly p a) (partly q b) ≡ true
    → (c ≡ a) × (d ≡ b)
both_known {p} {q} {a} {b} {c} {d} one other is =
    let both = and_parts (nat_eq p 0) (nat_eq q 0) is in (
      same_known (subst (λ m. Agree m a c) (eqb-true p 0 both.0) one),
      same_known (subst (λ m. Agree m b d) (eqb-true q 0 both.1) other),
    )

-- Shifts.

shift_by : (operation : ShiftOperation) (a k k' : ℕ) → k' % 32 ≡ k % 32
    → shift_value operation a k' ≡ shift_value operation a k
shift_by Slli a k k' same = ap (λ j. a * 2 ^ j % 2 ^ 32) same
shift_by Srli a k k' same = ap (λ j. a / 2 ^ j % 2 ^ 32) same
shift_by Srai a k k' same = ap (λ j. word_for (int_shr (signed a) j)) same

zero_shifted : (operation : ShiftOperation) (k : ℕ) → shift_value operation 0 k ≡ 0
zero_shifted Slli k = omega arith
zero_shifted Srli k = ap (λ n. n % 2 ^ 32) (zero-div (2 ^ (k % 32)))
zero_shifted Srai k = zero-div (2 ^ (k % 32))

wide_shifted : (mask k : ℕ) → 2 ^ 32 ≤ mask → shifted_signed mask k ≡ all_bits
wide_shifted mask k wide =
    let none : 2 ^ 32 - suc mask ≡ 0 = omega (arith, wide) in
    ap (λ z. word_for (int_shr z (k % 32))) (signed_high mask (omega (arith, wide)))
    ∙ ap (λ n. 2 ^ 32 - suc (n / 2 ^ (k % 32))) none ∙ ap (λ n. 2 ^ 32 - suc n) (zero-div (2 ^ (k % 32)))

pub shift_agrees : {mask a b : ℕ} (operation : ShiftOperation) (k : ℕ) → a < 2 ^ 32 → b < 2 ^ 32 → Agree mask a b
    → Agree (shift_value operation mask k) (shift_value operation a k) (shift_value operation b k)
shift_agrees Slli k fits fits' agree = left_agrees agree k
shift_agrees Srli k fits fits' agree = right_agrees agree k
shift_agrees {mask} {a} {b} Srai k fits fits' agree = elim (cases_lt mask (2 ^ 32)) [
  | inl below ↦ signed_agrees k below fits fits' agree
  | inr wide ↦
      subst (λ m. Agree m (shifted_signed a k) (shifted_signed b k)) (sym (wide_shifted mask k wide))
      (all_agree (shifted_signed a k) (shifted_signed b k) (shift_fits Srai a k fits) (shift_fits Srai b k fits'))
]

greatest_agrees : (mask a : ℕ) → Agree mask a (bit_or a mask)
greatest_agrees mask a = record { bits = λ i none. omega (arith, bit_at_or a mask i, none) }

-- an amount whose low five bits are known
pub same_amount : {mask a b : ℕ} → Agree mask a b → is_known_amount (partly mask a) ≡ true → b % 32 ≡ a % 32
same_amount {mask} agree known = same_low 5 agree (eqb-true (mask % 32) 0 known)

module _ {p q a b c d : ℕ} (a-fits : a < 2 ^ 32) (b-fits : b < 2 ^ 32) (c-fits : c < 2 ^ 32) (d-fits : d < 2 ^ 32)
    (one : Agree p a c) (other : Agree q b d) where
  pub shifted_agrees : (operation : ShiftOperation)
      → Agree (shifted_unknown operation (partly p a) (partly q b)) (shift_value operation a b)
      (shift_value operation c d)
  shifted_agrees operation =
      let v = shift_value operation a b in
      let w = shift_value operation c d in
      let k = bit_or b q in
      cond_both (is_known_amount (partly q b)) (shift_value operation p k) (unless (is_zero (partly p a)) all_bits)
      (λ m. Agree m v w)
      (λ known.
      let most = same_amount (greatest_agrees q b) known in
      subst (λ x. Agree (shift_value operation p k) x w) (shift_by operation a b k most)
      (subst (λ x. Agree (shift_value operation p k) (shift_value operation a k) x)
      (shift_by operation c d k (most ∙ sym (same_amount other known)))
      (shift_agrees operation k a-fits c-fits one)))
      (λ unknown. unless_agrees (is_zero (partly p a)) all_bits v w
      (λ none. let both = known_zero one none in
      ap (λ x. shift_value operation x d) both.1 ∙ zero_shifted operation d ∙ sym (zero_shifted operation b)
      ∙ sym (ap (λ x. shift_value operation x b) both.0))
      (all_agree v w (shift_fits operation a b a-fits) (shift_fits operation c d c-fits)))

  signed_test : Agree (unless (decides_signed_less (partly p a) (partly q b)) 1) (word_of (signed_less a b))
      (word_of (signed_less c d))
  signed_test =
      unless_agrees (decides_signed_less (partly p a) (partly q b)) 1 (word_of (signed_less a b))
      (word_of (signed_less c d))
      (λ sure. ap word_of (signed_less_agrees a-fits b-fits c-fits d-fits one other sure))
      (tests_agree (signed_less a b) (signed_less c d))

  test : Agree (unless (decides_less (partly p a) (partly q b)) 1) (word_of (nat_lt a b)) (word_of (nat_lt c d))
  test =
      unless_agrees (decides_less (partly p a) (partly q b)) 1 (word_of (nat_lt a b)) (word_of (nat_lt c d))
      (λ sure. ap word_of (less_agrees one other sure)) (tests_agree (nat_lt a b) (nat_lt c d))

  pub register_agrees : (operation : RegisterOperation)
      → Agree (register_unknown operation (partly p a) (partly q b)) (register_value operation a b)
      (register_value operation c d)
  register_agrees Add = sum_agrees one other
  register_agrees Sub = difference_agrees one other
  register_agrees Sll = shifted_agrees Slli
  register_agrees Slt = signed_test
  register_agrees Sltu = test
  register_agrees Xor = xor_agrees one other
  register_agrees Srl = shifted_agrees Srli
  register_agrees Sra = shifted_agrees Srai
  register_agrees Or = or_agrees one other
  register_agrees And = and_agrees one other

  pub immediate_agrees : (operation : ImmediateOperation)
      → Agree (immediate_unknown operation (partly p a) (partly q b)) (immediate_value operation a b)
      (immediate_value operation c d)
  immediate_agrees Addi = sum_agrees one other
  immediate_agrees Slti = signed_test
  immediate_agrees Sltiu = test
  immediate_agrees Xori = xor_agrees one other
  immediate_agrees Ori = or_agrees one other
  immediate_agrees Andi = and_agrees one other

-- An operation of a register with itself.

pub int_itself : (z : ℤ) → int_lt z z ≡ false
int_itself (pos n) = le-ltb n n (omega arith)
int_itself (negsuc n) = le-ltb n n (omega arith)

pub cancelled : (operation : RegisterOperation) → cancels operation ≡ true → (a b : ℕ)
    → register_value operation b b ≡ register_value operation a a
cancelled Sub is a b = omega arith
cancelled Slt is a b = ap word_of (int_itself (signed b) ∙ sym (int_itself (signed a)))
cancelled Sltu is a b = ap word_of (le-ltb b b (omega arith) ∙ sym (le-ltb a a (omega arith)))
cancelled Xor is a b = xor_self b ∙ sym (xor_self a)
cancelled Add is a b = cc
cancelled Sll is a b = cc
cancelled Srl is a b = cc
cancelled Sra is a b = cc
cancelled Or is a b = cc
cancelled And is a b = cc

-- Products and quotients.

zero_by : (z : ℤ) → pos 0 *ℤ z ≡ pos 0
zero_by (pos n) = ap pos (omega arith)
zero_by (negsuc n) = let none : 0 * suc n ≡ 0 = omega arith in ap (λ m. neg_ℤ (pos m)) none

by_zero : (z : ℤ) → z *ℤ pos 0 ≡ pos 0
by_zero (pos n) = ap pos (omega arith)
by_zero (negsuc n) = let none : suc n * 0 ≡ 0 = omega arith in ap (λ m. neg_ℤ (pos m)) none

zero_product : (operation : MultiplyOperation) (b : ℕ) → multiply_value operation 0 b ≡ 0
zero_product Mul b = omega arith
zero_product Mulh b = ap high_word (zero_by (signed b))
zero_product Mulhsu b = ap high_word (zero_by (pos b))
zero_product Mulhu b = omega arith

product_zero : (operation : MultiplyOperation) (a : ℕ) → multiply_value operation a 0 ≡ 0
product_zero Mul a = omega arith
product_zero Mulh a = ap high_word (by_zero (signed a))
product_zero Mulhsu a = ap high_word (by_zero (signed a))
product_zero Mulhu a = omega arith

module _ {p q a b c d : ℕ} (a-fits : a < 2 ^ 32) (b-fits : b < 2 ^ 32) (c-fits : c < 2 ^ 32) (d-fits : d < 2 ^ 32)
    (one : Agree p a c) (other : Agree q b d) where
  zero_products : (operation : MultiplyOperation) → product_is_zero (partly p a) (partly q b) ≡ true
      → multiply_value operation c d ≡ multiply_value operation a b
  zero_products operation is = elim (or_cases (is_zero (partly p a)) (is_zero (partly q b)) is) [
    | inl first ↦
        let both = known_zero one first in
        ap (λ x. multiply_value operation x d) both.1 ∙ zero_product operation d ∙ sym (zero_product operation b)
        ∙ sym (ap (λ x. multiply_value operation x b) both.0)
    | inr second ↦
        let both = known_zero other second in
        ap (λ x. multiply_value operation c x) both.1 ∙ product_zero operation c ∙ sym (product_zero operation a)
        ∙ sym (ap (λ x. multiply_value operation a x) both.0)
  ]

  known_products : (operation : MultiplyOperation)
      → (product_is_zero (partly p a) (partly q b) || are_known (partly p a) (partly q b)) ≡ true
      → multiply_value operation c d ≡ multiply_value operation a b
  known_products operation is =
      elim (or_cases (product_is_zero (partly p a) (partly q b)) (are_known (partly p a) (partly q b)) is) [
        | inl none ↦ zero_products operation none
        | inr known ↦ let both = both_known one other known in ap₂ (multiply_value operation) both.0 both.1
      ]

  high_agrees : (operation : MultiplyOperation)
      → Agree (unless (product_is_zero (partly p a) (partly q b) || are_known (partly p a) (partly q b)) all_bits)
      (multiply_value operation a b) (multiply_value operation c d)
  high_agrees operation =
      unless_agrees (product_is_zero (partly p a) (partly q b) || are_known (partly p a) (partly q b)) all_bits
      (multiply_value operation a b) (multiply_value operation c d) (known_products operation)
      (all_agree (multiply_value operation a b) (multiply_value operation c d)
      (multiply_fits operation a b a-fits b-fits) (multiply_fits operation c d c-fits d-fits))

  pub multiply_agrees : (operation : MultiplyOperation)
      → Agree (multiply_unknown operation (partly p a) (partly q b)) (multiply_value operation a b)
      (multiply_value operation c d)
  multiply_agrees Mul =
      unless_agrees (product_is_zero (partly p a) (partly q b)) (from_lowest (bit_or p q)) (multiply_value Mul a b)
      (multiply_value Mul c d) (zero_products Mul) (product_agrees one other)
  multiply_agrees Mulh = high_agrees Mulh
  multiply_agrees Mulhsu = high_agrees Mulhsu
  multiply_agrees Mulhu = high_agrees Mulhu

  pub divide_agrees : (operation : DivideOperation)
      → Agree (divide_unknown operation (partly p a) (partly q b)) (divide_value operation a b)
      (divide_value operation c d)
  divide_agrees operation =
      unless_agrees (are_known (partly p a) (partly q b)) all_bits (divide_value operation a b)
      (divide_value operation c d)
      (λ known. let both = both_known one other known in ap₂ (divide_value operation) both.0 both.1)
      (all_agree (divide_value operation a b) (divide_value operation c d) (divide_fits operation a b a-fits)
      (divide_fits operation c d c-fits))

-- Loads.

pub load_agrees : {mask a b : ℕ} (operation : LoadOperation) → Agree mask a b
    → Agree (loaded_value operation mask) (loaded_value operation a) (loaded_value operation b)
load_agrees {mask} {a} {b} Lb agree =
    extended_agrees 8 (omega arith) (omega arith) (mod_below mask (2 ^ 8) (pow_pos 8))
    (mod_below a (2 ^ 8) (pow_pos 8)) (mod_below b (2 ^ 8) (pow_pos 8)) (low_agrees agree 8)
load_agrees {mask} {a} {b} Lh agree =
    extended_agrees 16 (omega arith) (omega arith) (mod_below mask (2 ^ 16) (pow_pos 16))
    (mod_below a (2 ^ 16) (pow_pos 16)) (mod_below b (2 ^ 16) (pow_pos 16)) (low_agrees agree 16)
load_agrees Lw agree = agree
load_agrees Lbu agree = agree
load_agrees Lhu agree = agree
