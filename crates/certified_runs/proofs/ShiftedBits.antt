-- Shifts of numbers that agree but for the bits of a mask, and words extended by their sign.
use Rattle.std.proofs.Common.{◌≡◌, ℕ, suc, ◌+◌, ◌-◌, ◌*◌, ◌/◌, ◌%◌, ◌^◌, ◌<◌, ◌≤◌, cond}
use Rattle.std.proofs.Common.{refl, sym, ap, ◌∙◌, inl, inr, subst, arith, nat_lt}
use Rattle.std.specs.Prelude.{pos, negsuc}
use Rattle.std.proofs.Math.Nat.{add-mul, add-zero, add-mul-div_right, div-eq_of_lt}
use Rattle.std.proofs.Math.Pow.{high_ones, pow_mono}
use Rattle.std.proofs.lemmas.Bool.{cases_lt, cond_both, le-ltb, lt-ltb}
use Rattle.std.proofs.lemmas.Int.{to_z_pos}
use Rattle.std.proofs.lemmas.Nat.{div_below, le-div, mod_below, pow-add, pow_pos, shr-shr, shr_below, shr_split}
use Rattle.std.specs.Int.{bit_at, int_shr, w32}
use Rattle.std.proofs.lemmas.Nat.Bits.{bit_at-zero, bit_at_above, bit_at_cat_high, bit_at_cat_low, bit_at_ones}
use Rattle.rv_code.specs.Signed.{shifted_signed, sign_extended, signed, word_for}
use Rattle.word.specs.Operators.{shifted_left, shifted_right}
use Rattle.word.specs.declared.width.Width.TheVariants.{W32}
use Rattle.certified_runs.specs.Bits.{Agree}
use Rattle.certified_runs.proofs.Carries.{low_bit, no_bit, word_agrees}

-- To the left, to the right.

left_low : (n k i : ℕ) → i < k → bit_at (n * 2 ^ k) i ≡ 0
left_low n k i within =
    ap (λ x. bit_at x i) (sym (add-zero (n * 2 ^ k))) ∙ bit_at_cat_low n k 0 i within ∙ bit_at-zero i

left_high : (n k i : ℕ) → k ≤ i → bit_at (n * 2 ^ k) i ≡ bit_at n (i - k)
left_high n k i from =
    ap (λ x. bit_at x i) (sym (add-zero (n * 2 ^ k))) ∙ bit_at_cat_high n k 0 i (pow_pos k) from

right_bit : (n k i : ℕ) → bit_at (n / 2 ^ k) i ≡ bit_at n (k + i)
right_bit n k i = ap (λ x. x % 2) (shr-shr n k i)

module _ {mask a b : ℕ} (agree : Agree mask a b) (k : ℕ) where
  pub left_agrees : Agree (shifted_left W32 mask k) (shifted_left W32 a k) (shifted_left W32 b k)
  left_agrees =
      let j = k % 32 in
      word_agrees (a * 2 ^ j) (b * 2 ^ j) (λ i within none. elim (cases_lt i j) [
        | inl low ↦ left_low b j i low ∙ sym (left_low a j i low)
        | inr high ↦ left_high b j i high
            ∙ agree.bits (i - j) (sym (left_high mask j i high) ∙ sym (low_bit (mask * 2 ^ j) 32 i within) ∙ none)
            ∙ sym (left_high a j i high)
      ])

  pub right_agrees : Agree (shifted_right W32 mask k) (shifted_right W32 a k) (shifted_right W32 b k)
  right_agrees =
      let j = k % 32 in
      word_agrees (a / 2 ^ j) (b / 2 ^ j) (λ i within none.
      right_bit b j i
      ∙ agree.bits (j + i) (sym (right_bit mask j i) ∙ sym (low_bit (mask / 2 ^ j) 32 i within) ∙ none)
      ∙ sym (right_bit a j i))

  pub low_agrees : Agree (mask % 2 ^ k) (a % 2 ^ k) (b % 2 ^ k)
  low_agrees = record {
    bits = λ i none. elim (cases_lt i k) [
      | inl within ↦
          low_bit b k i within ∙ agree.bits i (sym (low_bit mask k i within) ∙ none) ∙ sym (low_bit a k i within)
      | inr from ↦ no_bit b k i from ∙ sym (no_bit a k i from)
    ];
  }

pub moved_agrees : {mask a b : ℕ} → Agree mask a b → (k : ℕ) → Agree (mask / 2 ^ k) (a / 2 ^ k) (b / 2 ^ k)
moved_agrees {mask} {a} {b} agree k = record {
  bits = λ i none.
      right_bit b k i ∙ agree.bits (k + i) (sym (right_bit mask k i) ∙ none) ∙ sym (right_bit a k i);
}

-- Words of n bits, extended by their sign.

module _ (n v : ℕ) (some : 0 < n) (few : n ≤ 32) (fits : v < 2 ^ n) where
  half : 2 * 2 ^ (n - 1) ≡ 2 ^ n
  half =
      let count : n - 1 + 1 ≡ n = omega (arith, some) in
      omega (arith, pow-add 2 (n - 1) 1, ap (λ j. 2 ^ j) count)

  above_it : v + (2 ^ 32 - 2 ^ n) ≡ (2 ^ (32 - n) - 1) * 2 ^ n + v
  above_it =
      let count : 32 - n + n ≡ 32 = omega (arith, few) in
      omega (arith, high_ones (32 - n) n, ap (λ j. 2 ^ j - 2 ^ n) count)

  pub extended_low : (i : ℕ) → i < n → bit_at (sign_extended n v) i ≡ bit_at v i
  extended_low i within =
      cond_both (nat_lt v (2 ^ (n - 1))) v (v + (2 ^ 32 - 2 ^ n)) (λ x. bit_at x i ≡ bit_at v i) (λ is. refl)
      (λ is. ap (λ x. bit_at x i) above_it ∙ bit_at_cat_low (2 ^ (32 - n) - 1) n v i within)

  pub extended_high : (i : ℕ) → n ≤ i → i < 32 → bit_at (sign_extended n v) i ≡ bit_at v (n - 1)
  extended_high i from within = elim (cases_lt v (2 ^ (n - 1))) [
    | inl low ↦
        ap (λ t. bit_at (cond t v (v + (2 ^ 32 - 2 ^ n))) i) (lt-ltb v (2 ^ (n - 1)) low) ∙ bit_at_above v n i fits from
        ∙ sym (bit_at_above v (n - 1) (n - 1) low (omega arith))
    | inr high ↦
        let less = div_below v (2 ^ (n - 1)) 2 (pow_pos (n - 1)) (omega (arith, half, fits)) in
        let more = le-div 1 v (2 ^ (n - 1)) (pow_pos (n - 1)) (omega (arith, high)) in
        let sign : bit_at v (n - 1) ≡ 1 = omega (arith, less, more) in
        ap (λ t. bit_at (cond t v (v + (2 ^ 32 - 2 ^ n))) i) (le-ltb v (2 ^ (n - 1)) high)
        ∙ ap (λ x. bit_at x i) above_it ∙ bit_at_cat_high (2 ^ (32 - n) - 1) n v i fits from
        ∙ bit_at_ones (32 - n) (i - n) (omega arith) ∙ sym sign
  ]

  pub extended_fits : sign_extended n v < 2 ^ 32
  extended_fits =
      let wide : 2 ^ n ≤ 2 ^ 32 = pow_mono few in
      cond_both (nat_lt v (2 ^ (n - 1))) v (v + (2 ^ 32 - 2 ^ n)) (λ x. x < 2 ^ 32) (λ is. omega (arith, fits, wide))
      (λ is. omega (arith, fits, wide))

pub extended_agrees : (n : ℕ) {mask a b : ℕ} → 0 < n → n ≤ 32 → mask < 2 ^ n → a < 2 ^ n → b < 2 ^ n → Agree mask a b
    → Agree (sign_extended n mask) (sign_extended n a) (sign_extended n b)
extended_agrees n {mask} {a} {b} some few mask-fits a-fits b-fits agree = record {
  bits = λ i none. elim (cases_lt i n) [
    | inl low ↦ extended_low n b some few b-fits i low
        ∙ agree.bits i (sym (extended_low n mask some few mask-fits i low) ∙ none)
        ∙ sym (extended_low n a some few a-fits i low)
    | inr high ↦ elim (cases_lt i 32) [
      | inl within ↦ extended_high n b some few b-fits i high within
          ∙ agree.bits (n - 1) (sym (extended_high n mask some few mask-fits i high within) ∙ none)
          ∙ sym (extended_high n a some few a-fits i high within)
      | inr from ↦ bit_at_above (sign_extended n b) 32 i (extended_fits n b some few b-fits) from
          ∙ sym (bit_at_above (sign_extended n a) 32 i (extended_fits n a some few a-fits) from)
    ]
  ];
}

-- To the right with the sign: the bits that stay, extended by it.

pub signed_low : (a : ℕ) → a < 2 ^ 31 → signed a ≡ pos a
signed_low a low = to_z_pos w32 a low

pub signed_high : (a : ℕ) → 2 ^ 31 ≤ a → signed a ≡ negsuc (2 ^ 32 - suc a)
signed_high a high = rw (le-ltb a (2 ^ 31) high) refl

pub signed_shift : (a k : ℕ) → a < 2 ^ 32 → shifted_signed a k ≡ sign_extended (32 - k % 32) (a / 2 ^ (k % 32))
signed_shift a k fits =
    let j = k % 32 in
    let n = 32 - j in
    let p = 2 ^ j in
    let q = a / p in
    let sign = 2 ^ (31 - j) in
    let less_one : n - 1 ≡ 31 - j = omega arith in
    let bits : n + j ≡ 32 = omega arith in
    let bits' : 31 - j + j ≡ 31 = omega arith in
    let all : 2 ^ n * p ≡ 2 ^ 32 = sym (pow-add 2 n j) ∙ ap (λ x. 2 ^ x) bits in
    let halves : sign * p ≡ 2 ^ 31 = sym (pow-add 2 (31 - j) j) ∙ ap (λ x. 2 ^ x) bits' in
    elim (cases_lt a (2 ^ 31)) [
      | inl low ↦
          let less : q < 2 ^ (n - 1) =
          subst (λ x. q < 2 ^ x) (sym less_one) (div_below a p sign (pow_pos j) (omega (arith, low, halves))) in
          ap (λ z. word_for (int_shr z j)) (signed_low a low)
          ∙ sym (ap (λ t. cond t q (q + (2 ^ 32 - 2 ^ n))) (lt-ltb q (2 ^ (n - 1)) less))
      | inr high ↦
          let more : 2 ^ (n - 1) ≤ q =
          subst (λ x. 2 ^ x ≤ q) (sym less_one) (le-div sign a p (pow_pos j) (omega (arith, high, halves))) in
          let few : q < 2 ^ n = div_below a p (2 ^ n) (pow_pos j) (omega (arith, fits, all)) in
          let rest = 2 ^ n - 1 - q in
          let whole : 2 ^ n ≡ rest + 1 + q = omega (arith, few) in
          let parts : 2 ^ 32 - suc a ≡ p - 1 - a % p + rest * p =
          omega (
            arith,
            shr_split a j,
            mod_below a p (pow_pos j),
            add-mul (rest + 1) q p,
            add-mul rest 1 p,
            ap (λ x. x * p) whole,
            all,
          ) in
          let below : p - 1 - a % p < p = omega (arith, pow_pos j) in
          let quotient = ap (λ x. x / p) parts ∙ add-mul-div_right (p - 1 - a % p) rest (pow_pos j) in
          let count : n ≤ 32 = omega arith in
          let wide : 2 ^ n ≤ 2 ^ 32 = pow_mono count in
          ap (λ z. word_for (int_shr z j)) (signed_high a high) ∙ omega (arith, quotient, div-eq_of_lt below, few, wide)
          ∙ sym (ap (λ t. cond t q (q + (2 ^ 32 - 2 ^ n))) (le-ltb q (2 ^ (n - 1)) more))
    ]

pub signed_agrees : {mask a b : ℕ} (k : ℕ) → mask < 2 ^ 32 → a < 2 ^ 32 → b < 2 ^ 32 → Agree mask a b
    → Agree (shifted_signed mask k) (shifted_signed a k) (shifted_signed b k)
signed_agrees {mask} {a} {b} k mask-fits a-fits b-fits agree =
    let j = k % 32 in
    let n = 32 - j in
    let bits : 32 ≡ n + j = omega arith in
    let fits : (v : ℕ) → v < 2 ^ 32 → v / 2 ^ j < 2 ^ n =
    λ v below. shr_below v n j (subst (λ x. v < 2 ^ x) bits below) in
    let some : 0 < n = omega arith in
    let few : n ≤ 32 = omega arith in
    let all = extended_agrees n some few (fits mask mask-fits) (fits a a-fits) (fits b b-fits)
    (moved_agrees agree j) in
    subst (λ m. Agree m (shifted_signed a k) (shifted_signed b k)) (sym (signed_shift mask k mask-fits))
    (subst (λ x. Agree (sign_extended n (mask / 2 ^ j)) x (shifted_signed b k)) (sym (signed_shift a k a-fits))
    (subst (λ x. Agree (sign_extended n (mask / 2 ^ j)) (sign_extended n (a / 2 ^ j)) x)
    (sym (signed_shift b k b-fits)) all))
