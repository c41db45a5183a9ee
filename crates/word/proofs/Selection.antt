-- The choice by a mask, bit by bit.
use Rattle.std.proofs.Common.{◌≡◌, ℕ, zero, suc, ◌+◌, ◌-◌, ◌/◌, ◌%◌, ◌^◌, ◌<◌, min, max, Bool, true, false}
use Rattle.std.proofs.Common.{if◌then◌else◌, bit_and, bit_or, bit_xor, ap, ap₂, sym, ◌∙◌, arith}
use Rattle.std.proofs.Math.Nat.{pow-suc, mod-eq_of_lt}
use Rattle.std.specs.Int.{bit_at}
use Rattle.std.specs.Int.Bits.{and_zero_r, or_zero_r}
use Rattle.std.proofs.lemmas.Nat.{xor_lt, or_lt, and_le_l, and_le_r, and_mask}
use Rattle.std.proofs.lemmas.Nat.Bits.{bit_at_and, bit_at_or, bit_at_xor, bit_at_lowest, bit_at-suc, bit_at-lt}
use Rattle.std.proofs.lemmas.Nat.Bits.{same_from_bits_below}
use Rattle.word.specs.Operators.{mask, selected}

complement_bit : (w n i : ℕ) → n < 2 ^ w → i < w → bit_at (2 ^ w - 1 - n) i ≡ 1 - bit_at n i
complement_bit zero n i fits within = absurd (omega arith)
complement_bit (suc w) n zero fits within =
    omega (arith, bit_at_lowest (2 ^ suc w - 1 - n), bit_at_lowest n, pow-suc 2 w)
complement_bit (suc w) n (suc i) fits within =
    let half : (2 ^ suc w - 1 - n) / 2 ≡ 2 ^ w - 1 - n / 2 = omega (arith, pow-suc 2 w) in
    bit_at-suc (2 ^ suc w - 1 - n) i ∙ ap (λ x. bit_at x i) half
    ∙ complement_bit w (n / 2) i (omega (arith, pow-suc 2 w)) (omega arith)
    ∙ ap (λ x. 1 - x) (sym (bit_at-suc n i))

-- of one bit
one_bit : (m a b : ℕ) → m < 2 → a < 2 → b < 2 → (b + min ((a + b) % 2) m) % 2 ≡ max (min a m) (min b (1 - m))
one_bit m a b p q r = omega arith

module _ (w m a b : ℕ) (m-fits : m < 2 ^ w) (a-fits : a < 2 ^ w) (b-fits : b < 2 ^ w) where
  each_bit : (i : ℕ) → i < w → bit_at (bit_xor b (bit_and (bit_xor a b) m)) i
      ≡ bit_at (bit_or (bit_and a m) (bit_and b (2 ^ w - 1 - m))) i
  each_bit i within =
      bit_at_xor b (bit_and (bit_xor a b) m) i
      ∙ ap (λ x. (bit_at b i + x) % 2) (bit_at_and (bit_xor a b) m i
      ∙ ap (λ x. min x (bit_at m i)) (bit_at_xor a b i))
      ∙ one_bit (bit_at m i) (bit_at a i) (bit_at b i) (bit_at-lt m i) (bit_at-lt a i) (bit_at-lt b i)
      ∙ sym (bit_at_or (bit_and a m) (bit_and b (2 ^ w - 1 - m)) i
      ∙ ap₂ max (bit_at_and a m i) (bit_at_and b (2 ^ w - 1 - m) i
      ∙ ap (λ x. min (bit_at b i) x) (complement_bit w m i m-fits within)))

  pub by_bits : bit_xor b (bit_and (bit_xor a b) m) ≡ bit_or (bit_and a m) (bit_and b (2 ^ w - 1 - m))
  by_bits =
      let left = and_le_r (bit_xor a b) m in
      let first = and_le_l a m in
      let second = and_le_l b (2 ^ w - 1 - m) in
      same_from_bits_below w _ _
      (xor_lt w b (bit_and (bit_xor a b) m) b-fits (omega arith))
      (or_lt w (bit_and a m) (bit_and b (2 ^ w - 1 - m)) (omega arith) (omega arith))
      each_bit

-- by a condition's mask
pub by_condition : (c : Bool) (a b : ℕ) → a < 2 ^ 32 → b < 2 ^ 32 → selected (mask c) a b ≡ (if c then a else b)
by_condition false a b p q =
    ap₂ bit_or (and_zero_r a) (and_mask b 32) ∙ mod-eq_of_lt q
by_condition true a b p q =
    ap₂ bit_or (and_mask a 32 ∙ mod-eq_of_lt p) (and_zero_r b) ∙ or_zero_r a
