-- Numbers that agree but for the bits of a mask, and operations on bits by themselves.
use Rattle.std.proofs.Common.{◌≡◌, ◌⊎◌, ℕ, ◌+◌, ◌-◌, ◌%◌, ◌<◌, min, max, bit_and, bit_or, bit_xor}
use Rattle.std.proofs.Common.{refl, sym, ap, ap₂, ◌∙◌, inl, inr, arith}
use Rattle.std.proofs.lemmas.Bool.{cases_eq}
use Rattle.std.specs.Int.{bit_at}
use Rattle.std.proofs.lemmas.Nat.Bits.{bit_at-lt, bit_at-zero, bit_at_and, bit_at_or, bit_at_xor, same_from_bits}
use Rattle.certified_runs.specs.Bits.{Agree, and_unknown, least, or_unknown, partly, xor_unknown}

-- A bit is 0 or 1.
pub bit_cases : (n i : ℕ) → (bit_at n i ≡ 0) ⊎ (bit_at n i ≡ 1)
bit_cases n i = elim (cases_eq (bit_at n i) 0) [
  | inl none ↦ inl none
  | inr one ↦ inr (omega (arith, one, bit_at-lt n i))
]

-- numbers that agree are the same with the unknown bits set, and the other way round
pub same_greatest : {mask a b : ℕ} → Agree mask a b → bit_or b mask ≡ bit_or a mask
same_greatest {mask} {a} {b} agree =
    same_from_bits (bit_or b mask) (bit_or a mask)
    (λ i. bit_at_or b mask i ∙ each i ∙ sym (bit_at_or a mask i))
  where
    each : (i : ℕ) → max (bit_at b i) (bit_at mask i) ≡ max (bit_at a i) (bit_at mask i)
    each i = elim (bit_cases mask i) [
      | inl none ↦ ap (λ x. max x (bit_at mask i)) (agree.bits i none)
      | inr one ↦ omega (arith, one, bit_at-lt a i, bit_at-lt b i)
    ]

pub from_same_greatest : {mask a b : ℕ} → bit_or b mask ≡ bit_or a mask → Agree mask a b
from_same_greatest {mask} {a} {b} same = record {
  bits = λ i none. omega (arith, none, ap (λ n. bit_at n i) same, bit_at_or a mask i, bit_at_or b mask i);
}

-- where no bit is unknown they are one number
pub same_known : {a b : ℕ} → Agree 0 a b → b ≡ a
same_known {a} {b} agree = same_from_bits b a (λ i. agree.bits i (bit_at-zero i))

pub agree_itself : (mask a : ℕ) → Agree mask a a
agree_itself mask a = record { bits = λ i none. refl }

-- The bits of the greatest number and of the least.

pub greatest_bit : (mask a i : ℕ) → bit_at (bit_or a mask) i ≡ max (bit_at a i) (bit_at mask i)
greatest_bit mask a i = bit_at_or a mask i

pub least_bit : (mask a i : ℕ) → bit_at (least (partly mask a)) i ≡ min (bit_at a i) (1 - bit_at mask i)
least_bit mask a i =
    omega (arith, bit_at_xor (bit_or a mask) mask i, bit_at_or a mask i, bit_at-lt a i, bit_at-lt mask i)

-- Bits by themselves, of which one operand's mask is p and the other's q.

and_bit : (p q a b c d : ℕ) → p < 2 → q < 2 → a < 2 → b < 2 → c < 2 → d < 2 → (p ≡ 0 → c ≡ a) → (q ≡ 0 → d ≡ b)
    → min (max p q) (min (max a p) (max b q)) ≡ 0 → min c d ≡ min a b
and_bit p q a b c d p-bit q-bit a-bit b-bit c-bit d-bit one other none =
    elim (cases_eq p 0) [
      | inl known ↦ elim (cases_eq q 0) [
        | inl known' ↦ ap₂ min (one known) (other known')
        | inr unknown' ↦ omega (arith, one known, unknown')
      ]
      | inr unknown ↦ elim (cases_eq q 0) [
        | inl known' ↦ omega (arith, other known', unknown)
        | inr unknown' ↦ omega (arith, unknown, unknown')
      ]
    ]

or_bit : (p q a b c d : ℕ) → p < 2 → q < 2 → a < 2 → b < 2 → c < 2 → d < 2 → (p ≡ 0 → c ≡ a) → (q ≡ 0 → d ≡ b)
    → (max (max p q) (max (min a (1 - p)) (min b (1 - q))) + max (min a (1 - p)) (min b (1 - q))) % 2 ≡ 0
    → max c d ≡ max a b
or_bit p q a b c d p-bit q-bit a-bit b-bit c-bit d-bit one other none =
    elim (cases_eq p 0) [
      | inl known ↦ elim (cases_eq q 0) [
        | inl known' ↦ ap₂ max (one known) (other known')
        | inr unknown' ↦ omega (arith, one known, unknown')
      ]
      | inr unknown ↦ elim (cases_eq q 0) [
        | inl known' ↦ omega (arith, other known', unknown)
        | inr unknown' ↦ omega (arith, unknown, unknown')
      ]
    ]

module _ {p q a b c d : ℕ} (one : Agree p a c) (other : Agree q b d) where
  pub and_agrees : Agree (and_unknown (partly p a) (partly q b)) (bit_and a b) (bit_and c d)
  and_agrees = record {
    bits = λ i none.
        let mask =
        bit_at_and (bit_or p q) (bit_and (bit_or a p) (bit_or b q)) i
        ∙ ap₂ min (bit_at_or p q i) (bit_at_and (bit_or a p) (bit_or b q) i
        ∙ ap₂ min (bit_at_or a p i) (bit_at_or b q i)) in
        bit_at_and c d i
        ∙ and_bit (bit_at p i) (bit_at q i) (bit_at a i) (bit_at b i) (bit_at c i) (bit_at d i) (bit_at-lt p i)
        (bit_at-lt q i) (bit_at-lt a i) (bit_at-lt b i) (bit_at-lt c i) (bit_at-lt d i) (one.bits i) (other.bits i)
        (sym mask ∙ none)
        ∙ sym (bit_at_and a b i);
  }

  pub or_agrees : Agree (or_unknown (partly p a) (partly q b)) (bit_or a b) (bit_or c d)
  or_agrees = record {
    bits = λ i none.
        let low = least (partly p a) in
        let low' = least (partly q b) in
        let ones = bit_at_or low low' i ∙ ap₂ max (least_bit p a i) (least_bit q b i) in
        let mask =
        bit_at_xor (bit_or (bit_or p q) (bit_or low low')) (bit_or low low') i
        ∙ ap₂ (λ x y. (x + y) % 2) (bit_at_or (bit_or p q) (bit_or low low') i ∙ ap₂ max (bit_at_or p q i) ones) ones in
        bit_at_or c d i
        ∙ or_bit (bit_at p i) (bit_at q i) (bit_at a i) (bit_at b i) (bit_at c i) (bit_at d i) (bit_at-lt p i)
        (bit_at-lt q i) (bit_at-lt a i) (bit_at-lt b i) (bit_at-lt c i) (bit_at-lt d i) (one.bits i) (other.bits i)
        (sym mask ∙ none)
        ∙ sym (bit_at_or a b i);
  }

  pub xor_agrees : Agree (xor_unknown (partly p a) (partly q b)) (bit_xor a b) (bit_xor c d)
  xor_agrees = record {
    bits = λ i none.
        let mask = sym (bit_at_or p q i) ∙ none in
        let same = one.bits i (omega (arith, mask)) in
        let same' = other.bits i (omega (arith, mask)) in
        bit_at_xor c d i ∙ ap₂ (λ x y. (x + y) % 2) same same' ∙ sym (bit_at_xor a b i);
  }
