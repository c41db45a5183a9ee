-- Sums, differences and products of numbers that agree but for the bits of masks.
use Rattle.std.proofs.Common.{◌≡◌, ℕ, suc, ◌+◌, ◌-◌, ◌*◌, ◌/◌, ◌%◌, ◌^◌, ◌<◌, ◌≤◌, max, bit_and, bit_or, bit_xor}
use Rattle.std.proofs.Common.{sym, ap, ap₂, ◌∙◌, inl, inr, arith}
use Rattle.std.proofs.Math.Nat.{add-mul, add-mul-div_right, add-mod, div-mul-le_self, mod-eq_of_lt, zero-mod}
use Rattle.std.proofs.lemmas.Bool.{cases_lt}
use Rattle.std.proofs.lemmas.Nat.{and_le_r, and_mod, div_below, le-div, mod-pow-add, mod_below, mod_low, mul-mod, pow-add}
use Rattle.std.proofs.lemmas.Nat.{le_or_l, le_or_r, or_mod, pow_pos, shr_split}
use Rattle.std.specs.Int.{bit_at}
use Rattle.std.proofs.lemmas.Nat.Bits.{bit_at-lt, bit_at-zero, bit_at_above, bit_at_and, bit_at_cat_low, bit_at_or}
use Rattle.std.proofs.lemmas.Nat.Bits.{bit_at_xor, same_from_bits, same_from_bits_below}
use Rattle.rv_code.specs.Operations.{difference_of, sum_of}
use Rattle.word.specs.Operators.{negated, product}
use Rattle.word.specs.declared.width.Width.TheVariants.{W32}
use Rattle.certified_runs.specs.Bits.{Agree, difference_unknown, from_lowest, least, partly, sum_unknown}
use Rattle.certified_runs.proofs.Agreeing.{agree_itself, bit_cases, greatest_bit, least_bit}

-- Low bits.

pub low_bit : (n k i : ℕ) → i < k → bit_at (n % 2 ^ k) i ≡ bit_at n i
low_bit n k i within =
    sym (bit_at_cat_low (n / 2 ^ k) k (n % 2 ^ k) i within) ∙ ap (λ x. bit_at x i) (shr_split n k)

pub no_bit : (n k i : ℕ) → k ≤ i → bit_at (n % 2 ^ k) i ≡ 0
no_bit n k i from = bit_at_above (n % 2 ^ k) k i (mod_below n (2 ^ k) (pow_pos k)) from

pub low_of_low : (n k i : ℕ) → i ≤ k → n % 2 ^ k % 2 ^ i ≡ n % 2 ^ i
low_of_low n k i within =
    let parts : k ≡ k - i + i = omega arith in
    ap (λ j. n % 2 ^ j % 2 ^ i) parts ∙ ap (λ x. x % 2 ^ i) (mod-pow-add n (k - i) i)
    ∙ mod_low (n / 2 ^ i % 2 ^ (k - i)) i (n % 2 ^ i) (mod_below n (2 ^ i) (pow_pos i))

-- words that agree in each bit below 32
pub word_agrees : {mask : ℕ} (m n : ℕ) → ((i : ℕ) → i < 32 → bit_at mask i ≡ 0 → bit_at n i ≡ bit_at m i)
    → Agree mask (m % 2 ^ 32) (n % 2 ^ 32)
word_agrees m n each = record {
  bits = λ i none. elim (cases_lt i 32) [
    | inl within ↦ low_bit n 32 i within ∙ each i within none ∙ sym (low_bit m 32 i within)
    | inr from ↦ no_bit n 32 i from ∙ sym (no_bit m 32 i from)
  ];
}

-- Where one number has no bit that another has not, it is at most that one, and so are its low bits.

inside : (x y : ℕ) → ((i : ℕ) → bit_at x i ≤ bit_at y i) → bit_and x y ≡ x
inside x y each = same_from_bits (bit_and x y) x (λ i. let one = each i in omega (arith, bit_at_and x y i, one))

pub at_most : (x y : ℕ) → ((i : ℕ) → bit_at x i ≤ bit_at y i) → x ≤ y
at_most x y each = omega (arith, inside x y each, and_le_r x y)

pub low_at_most : (x y : ℕ) → ((i : ℕ) → bit_at x i ≤ bit_at y i) → (k : ℕ) → x % 2 ^ k ≤ y % 2 ^ k
low_at_most x y each k =
    let same : bit_and (x % 2 ^ k) (y % 2 ^ k) ≡ x % 2 ^ k =
    sym (and_mod x y k) ∙ ap (λ n. n % 2 ^ k) (inside x y each) in
    omega (arith, same, and_le_r (x % 2 ^ k) (y % 2 ^ k))

-- what is known bounds a number that agrees, bit by bit
module _ {mask a b : ℕ} (agree : Agree mask a b) where
  pub above_least : (i : ℕ) → bit_at (least (partly mask a)) i ≤ bit_at b i
  above_least i = elim (bit_cases mask i) [
    | inl none ↦ omega (arith, least_bit mask a i, none, agree.bits i none)
    | inr one ↦ omega (arith, least_bit mask a i, one)
  ]

  pub below_greatest : (i : ℕ) → bit_at b i ≤ bit_at (bit_or a mask) i
  below_greatest i = elim (bit_cases mask i) [
    | inl none ↦ omega (arith, greatest_bit mask a i, agree.bits i none)
    | inr one ↦ omega (arith, greatest_bit mask a i, one, bit_at-lt b i)
  ]

-- Sums.

quotient_at_most : (m n k : ℕ) → 0 < k → m ≤ n → m / k ≤ n / k
quotient_at_most m n k some less = le-div (m / k) n k some (omega (arith, div-mul-le_self m k, less))

-- the carry into a bit
abbrev carry : ℕ → ℕ → ℕ → ℕ
carry x y i = (x % 2 ^ i + y % 2 ^ i) / 2 ^ i

sum_bit : (x y i : ℕ) → bit_at (x + y) i ≡ (bit_at x i + bit_at y i + carry x y i) % 2
sum_bit x y i =
    let p = 2 ^ i in
    let parts : x + y ≡ x % p + y % p + (x / p + y / p) * p =
    omega (arith, shr_split x i, shr_split y i, add-mul (x / p) (y / p) p) in
    let quotient = ap (λ n. n / p) parts ∙ add-mul-div_right (x % p + y % p) (x / p + y / p) (pow_pos i) in
    omega (arith, quotient)

carry_few : (x y i : ℕ) → carry x y i ≤ 1
carry_few x y i =
    let below : x % 2 ^ i + y % 2 ^ i < 2 * 2 ^ i =
    omega (arith, mod_below x (2 ^ i) (pow_pos i), mod_below y (2 ^ i) (pow_pos i)) in
    omega (arith, div_below (x % 2 ^ i + y % 2 ^ i) (2 ^ i) 2 (pow_pos i) below)

carry_at_most : (x y z w i : ℕ) → x % 2 ^ i ≤ z % 2 ^ i → y % 2 ^ i ≤ w % 2 ^ i → carry x y i ≤ carry z w i
carry_at_most x y z w i one other =
    quotient_at_most (x % 2 ^ i + y % 2 ^ i) (z % 2 ^ i + w % 2 ^ i) (2 ^ i) (pow_pos i) (omega (arith, one, other))

-- carries between two that are one are that one
between : (n low high one other : ℕ) → low ≤ one → one ≤ high → low ≤ other → other ≤ high → high ≤ 1
    → ((n + low) % 2 + (n + high) % 2) % 2 ≡ 0 → (n + other) % 2 ≡ (n + one) % 2
between n low high one other a b c d e f = omega arith

-- of masks, none is set where none of either and no difference is
no_difference : (p q s t : ℕ) → max (max p q) ((s + t) % 2) ≡ 0 → (p ≡ 0) × (q ≡ 0) × ((s + t) % 2 ≡ 0)
no_difference p q s t none = (omega (arith, none), omega (arith, none), omega (arith, none))

module _ {p q a b c d : ℕ} (one : Agree p a c) (other : Agree q b d) where
  sums_agree : (i : ℕ) → i < 32 → bit_at (sum_unknown (partly p a) (partly q b)) i ≡ 0
      → bit_at (c + d) i ≡ bit_at (a + b) i
  sums_agree i within none =
      let l = least (partly p a) in
      let l' = least (partly q b) in
      let g = bit_or a p in
      let g' = bit_or b q in
      let mask =
      bit_at_or (bit_or p q) (bit_xor (sum_of l l') (sum_of g g')) i
      ∙ ap₂ max (bit_at_or p q i) (bit_at_xor (sum_of l l') (sum_of g g') i
      ∙ ap₂ (λ x y. (x + y) % 2) (low_bit (l + l') 32 i within) (low_bit (g + g') 32 i within)) in
      let known = no_difference (bit_at p i) (bit_at q i) (bit_at (l + l') i) (bit_at (g + g') i) (sym mask ∙ none) in
      let n = bit_at a i + bit_at b i in
      let low_is : bit_at (l + l') i ≡ (n + carry l l' i) % 2 =
      omega (arith, sum_bit l l' i, least_bit p a i, least_bit q b i, known.0, known.1, bit_at-lt a i, bit_at-lt b i) in
      let high_is : bit_at (g + g') i ≡ (n + carry g g' i) % 2 =
      omega (arith, sum_bit g g' i, greatest_bit p a i, greatest_bit q b i, known.0, known.1) in
      let itself = agree_itself p a in
      let itself' = agree_itself q b in
      let same = between n (carry l l' i) (carry g g' i) (carry a b i) (carry c d i)
      (carry_at_most l l' a b i (low_at_most l a (above_least itself) i) (low_at_most l' b (above_least itself') i))
      (carry_at_most a b g g' i (low_at_most a g (below_greatest itself) i) (low_at_most b g' (below_greatest itself') i))
      (carry_at_most l l' c d i (low_at_most l c (above_least one) i) (low_at_most l' d (above_least other) i))
      (carry_at_most c d g g' i (low_at_most c g (below_greatest one) i) (low_at_most d g' (below_greatest other) i))
      (carry_few g g' i) (ap₂ (λ x y. (x + y) % 2) (sym low_is) (sym high_is) ∙ known.2) in
      sum_bit c d i
      ∙ ap₂ (λ x y. (x + y + carry c d i) % 2) (one.bits i known.0) (other.bits i known.1) ∙ same
      ∙ sym (sum_bit a b i)

  pub sum_agrees : Agree (sum_unknown (partly p a) (partly q b)) (sum_of a b) (sum_of c d)
  sum_agrees = word_agrees (a + b) (c + d) sums_agree

-- Differences.

-- what is left in the low bits, with one lent from above, and whether that was not needed
abbrev unneeded : ℕ → ℕ → ℕ → ℕ
unneeded x y i = (x % 2 ^ i + (2 ^ i - y % 2 ^ i)) / 2 ^ i

difference_bit : (x y i : ℕ) → i < 32
    → bit_at (x + (2 ^ 32 - y % 2 ^ 32)) i ≡ (bit_at x i + bit_at y i + 1 + unneeded x y i) % 2
difference_bit x y i within =
    let p = 2 ^ i in
    let word = y % 2 ^ 32 in
    let half = 2 ^ (31 - i) in
    let count : 31 - i + 1 + i ≡ 32 = omega arith in
    let all : 2 * half * p ≡ 2 ^ 32 =
    ap (λ n. n * p) (omega (arith, pow-add 2 (31 - i) 1)) ∙ sym (pow-add 2 (31 - i + 1) i) ∙ ap (λ j. 2 ^ j) count in
    let few : word / p < 2 * half =
    div_below word p (2 * half) (pow_pos i) (omega (arith, all, mod_below y (2 ^ 32) (pow_pos 32))) in
    let rest = 2 * half - 1 - word / p in
    let whole : 2 * half ≡ rest + 1 + word / p = omega (arith, few) in
    let spread : rest * p + p + word / p * p ≡ 2 ^ 32 =
    omega (arith, add-mul (rest + 1) (word / p) p, add-mul rest 1 p, ap (λ n. n * p) whole, all) in
    let low : word % p ≡ y % p = low_of_low y 32 i (omega arith) in
    let parts : x + (2 ^ 32 - word) ≡ x % p + (p - y % p) + (x / p + rest) * p =
    omega (arith, spread, shr_split x i, shr_split word i, low, mod_below y p (pow_pos i), add-mul (x / p) rest p) in
    let quotient = ap (λ n. n / p) parts ∙ add-mul-div_right (x % p + (p - y % p)) (x / p + rest) (pow_pos i) in
    omega (arith, quotient, whole, low_bit y 32 i within)

unneeded_few : (x y i : ℕ) → unneeded x y i ≤ 1
unneeded_few x y i =
    let below : x % 2 ^ i + (2 ^ i - y % 2 ^ i) < 2 * 2 ^ i =
    omega (arith, mod_below x (2 ^ i) (pow_pos i), pow_pos i) in
    omega (arith, div_below (x % 2 ^ i + (2 ^ i - y % 2 ^ i)) (2 ^ i) 2 (pow_pos i) below)

unneeded_at_most : (x y z w i : ℕ) → x % 2 ^ i ≤ z % 2 ^ i → w % 2 ^ i ≤ y % 2 ^ i → unneeded x y i ≤ unneeded z w i
unneeded_at_most x y z w i one other =
    quotient_at_most (x % 2 ^ i + (2 ^ i - y % 2 ^ i)) (z % 2 ^ i + (2 ^ i - w % 2 ^ i)) (2 ^ i) (pow_pos i)
    (omega (arith, one, other))

module _ {p q a b c d : ℕ} (one : Agree p a c) (other : Agree q b d) where
  differences_agree : (i : ℕ) → i < 32 → bit_at (difference_unknown (partly p a) (partly q b)) i ≡ 0
      → bit_at (c + (2 ^ 32 - d % 2 ^ 32)) i ≡ bit_at (a + (2 ^ 32 - b % 2 ^ 32)) i
  differences_agree i within none =
      let l = least (partly p a) in
      let l' = least (partly q b) in
      let g = bit_or a p in
      let g' = bit_or b q in
      let s = l + (2 ^ 32 - g' % 2 ^ 32) in
      let t = g + (2 ^ 32 - l' % 2 ^ 32) in
      let mask =
      bit_at_or (bit_or p q) (bit_xor (difference_of l g') (difference_of g l')) i
      ∙ ap₂ max (bit_at_or p q i) (bit_at_xor (difference_of l g') (difference_of g l') i
      ∙ ap₂ (λ x y. (x + y) % 2) (low_bit s 32 i within) (low_bit t 32 i within)) in
      let known = no_difference (bit_at p i) (bit_at q i) (bit_at s i) (bit_at t i) (sym mask ∙ none) in
      let n = bit_at a i + bit_at b i + 1 in
      let low_is : bit_at s i ≡ (n + unneeded l g' i) % 2 =
      omega (arith, difference_bit l g' i within, least_bit p a i, greatest_bit q b i, known.0, known.1) in
      let high_is : bit_at t i ≡ (n + unneeded g l' i) % 2 =
      omega (arith, difference_bit g l' i within, greatest_bit p a i, least_bit q b i, known.0, known.1) in
      let itself = agree_itself p a in
      let itself' = agree_itself q b in
      let same = between n (unneeded l g' i) (unneeded g l' i) (unneeded a b i) (unneeded c d i)
      (unneeded_at_most l g' a b i (low_at_most l a (above_least itself) i)
      (low_at_most b g' (below_greatest itself') i))
      (unneeded_at_most a b g l' i (low_at_most a g (below_greatest itself) i)
      (low_at_most l' b (above_least itself') i))
      (unneeded_at_most l g' c d i (low_at_most l c (above_least one) i) (low_at_most d g' (below_greatest other) i))
      (unneeded_at_most c d g l' i (low_at_most c g (below_greatest one) i) (low_at_most l' d (above_least other) i))
      (unneeded_few g l' i) (ap₂ (λ x y. (x + y) % 2) (sym low_is) (sym high_is) ∙ known.2) in
      difference_bit c d i within
      ∙ ap₂ (λ x y. (x + y + 1 + unneeded c d i) % 2) (one.bits i known.0) (other.bits i known.1) ∙ same
      ∙ sym (difference_bit a b i within)

  pub difference_agrees : Agree (difference_unknown (partly p a) (partly q b)) (difference_of a b) (difference_of c d)
  difference_agrees =
      word_agrees (a + (2 ^ 32 - b % 2 ^ 32)) (c + (2 ^ 32 - d % 2 ^ 32)) differences_agree

-- Products.

-- a number and its negation are 0 together
negated_sum : (n : ℕ) → (n + negated W32 n) % 2 ^ 32 ≡ 0
negated_sum n = omega arith

-- below a bit that is not above the lowest one there are none
pub none_below : (mask i : ℕ) → i < 32 → bit_at (from_lowest mask) i ≡ 0 → mask % 2 ^ suc i ≡ 0
none_below mask i within none =
    let n = negated W32 mask in
    let p = 2 ^ i in
    let both : max (bit_at mask i) (bit_at n i) ≡ 0 = sym (bit_at_or mask n i) ∙ none in
    let sum_is : bit_at (mask + n) i ≡ 0 =
    sym (low_bit (mask + n) 32 i within) ∙ ap (λ x. bit_at x i) (negated_sum mask) ∙ bit_at-zero i in
    let carried : carry mask n i ≡ 0 = omega (arith, sum_bit mask n i, both, sum_is, carry_few mask n i) in
    let small : mask % p + n % p < p = elim (cases_lt (mask % p + n % p) p) [
      | inl less ↦ less
      | inr more ↦ absurd (omega (arith, le-div 1 (mask % p + n % p) p (pow_pos i) (omega (arith, more)), carried))
    ] in
    let gone : (mask % p + n % p) % p ≡ 0 =
    sym (add-mod mask n p) ∙ sym (low_of_low (mask + n) 32 i (omega arith)) ∙ ap (λ x. x % p) (negated_sum mask)
    ∙ zero-mod p in
    let nothing : mask % p ≡ 0 = omega (arith, mod-eq_of_lt small, gone) in
    let here : mask / p % 2 ^ 1 ≡ 0 = omega (arith, both) in
    let count : suc i ≡ 1 + i = omega arith in
    let none_left : 0 * p + 0 ≡ 0 = omega arith in
    ap (λ j. mask % 2 ^ j) count ∙ mod-pow-add mask 1 i ∙ ap₂ (λ x y. x * p + y) here nothing ∙ none_left

-- where the low bits are known they are the same
pub same_low : {mask a b : ℕ} (k : ℕ) → Agree mask a b → mask % 2 ^ k ≡ 0 → b % 2 ^ k ≡ a % 2 ^ k
same_low {mask} {a} {b} k agree none =
    same_from_bits_below k (b % 2 ^ k) (a % 2 ^ k) (mod_below b (2 ^ k) (pow_pos k)) (mod_below a (2 ^ k) (pow_pos k))
    (λ i within. low_bit b k i within
    ∙ agree.bits i (sym (low_bit mask k i within) ∙ ap (λ n. bit_at n i) none ∙ bit_at-zero i)
    ∙ sym (low_bit a k i within))

module _ {p q a b c d : ℕ} (one : Agree p a c) (other : Agree q b d) where
  products_agree : (i : ℕ) → i < 32 → bit_at (from_lowest (bit_or p q)) i ≡ 0 → bit_at (c * d) i ≡ bit_at (a * b) i
  products_agree i within none =
      let k = suc i in
      let zero_both = none_below (bit_or p q) i within none in
      let parts : bit_or (p % 2 ^ k) (q % 2 ^ k) ≡ 0 = sym (or_mod p q k) ∙ zero_both in
      let same = same_low k one (omega (arith, le_or_l (p % 2 ^ k) (q % 2 ^ k), parts)) in
      let same' = same_low k other (omega (arith, le_or_r (p % 2 ^ k) (q % 2 ^ k), parts)) in
      let low : c * d % 2 ^ k ≡ a * b % 2 ^ k =
      mul-mod c d (2 ^ k) ∙ ap₂ (λ x y. x * y % 2 ^ k) same same' ∙ sym (mul-mod a b (2 ^ k)) in
      sym (low_bit (c * d) k i (omega arith)) ∙ ap (λ n. bit_at n i) low ∙ low_bit (a * b) k i (omega arith)

  pub product_agrees : Agree (from_lowest (bit_or p q)) (product W32 a b) (product W32 c d)
  product_agrees = word_agrees (a * b) (c * d) products_agree
