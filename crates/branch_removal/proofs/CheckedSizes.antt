-- Counts that stop at the greatest number of 64 bits tell whether a limit is kept.
use Rattle.std.proofs.Common.{◌≡◌, ℕ, ◌+◌, ◌*◌, ◌-◌, ◌^◌, ◌<◌, ◌≤◌, nat_le, inl, inr, sym, ◌∙◌, arith}
use Rattle.std.proofs.Math.Nat.{mul-le-mul_left}
use Rattle.std.proofs.lemmas.Bool.{false_from_ne_true, le-leb, leb-true}
use Rattle.std.proofs.lemmas.Bool.Decides.{leb_tells}
use Rattle.branch_removal.specs.private.Counts.{counted, told}

-- two numbers that are within two limits alike
pub alike : (m limit n most : ℕ) → (m ≤ limit → n ≤ most) → (n ≤ most → m ≤ limit) → nat_le m limit ≡ nat_le n most
alike m limit n most there back = elim (leb_tells n most) [
  | inl less ↦ le-leb m limit (back less.1) ∙ sym less.0
  | inr over ↦ false_from_ne_true (nat_le m limit) (λ h. absurd (omega (arith, there (leb-true m limit h), over.1)))
      ∙ sym over.0
]

pub within : (count n limit : ℕ) → count ≡ counted n → limit < 2 ^ 64 - 1 → nat_le count limit ≡ nat_le n limit
within count n limit is few = alike count limit n limit (λ h. omega (arith, h)) (λ h. omega (arith, h))

-- words of four bytes
pub words_within : (count n : ℕ) → count ≡ counted n → nat_le count 10192 ≡ nat_le (4 * n) 40768
words_within count n is = alike count 10192 (4 * n) 40768 (λ h. omega (arith, h)) (λ h. omega (arith, h))

-- the iterations of a loop, whose body's work is told by a count
pub loop_counted : (a t w count : ℕ) → told count ≡ told w
    → told (counted (a + (t + 1) * counted (1 + count))) ≡ told (a + (t + 1) * (1 + w))
loop_counted a t w count is = elim (leb_tells (1 + w) (2 ^ 63 - 1)) [
  | inl less ↦
      let same : counted (1 + count) ≡ 1 + w = omega (arith, is, less.1) in
      rw same (omega arith)
  | inr over ↦
      let one : counted (1 + count) * 1 ≤ counted (1 + count) * (t + 1) =
      mul-le-mul_left (counted (1 + count)) (omega arith) in
      let other : (1 + w) * 1 ≤ (1 + w) * (t + 1) = mul-le-mul_left (1 + w) (omega arith) in
      omega (arith, is, over.1, one, other)
]
