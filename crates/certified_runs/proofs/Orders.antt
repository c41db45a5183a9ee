-- Comparisons of words that agree but for the bits of masks.
use Rattle.std.proofs.Common.{◌≡◌, ℕ, ◌+◌, ◌-◌, ◌*◌, ◌^◌, ◌<◌, ◌≤◌, Bool, true, false, not}
use Rattle.std.proofs.Common.{nat_lt, nat_le, bit_or, bit_xor, refl, sym, subst, suc, ap, ap₂, ◌∙◌, inl, inr, arith}
use Rattle.std.specs.Prelude.{◌||◌, nat_eq, ℤ, pos, negsuc, int_le, int_lt}
use Rattle.std.proofs.lemmas.Bool.{cases_lt, le-leb, lt-leb, eqb-true, eqb-false, le-ltb, lt-ltb, ne_eqb, or_cases}
use Rattle.std.proofs.lemmas.Nat.{le_or_l, le_or_r, xor_block}
use Rattle.std.specs.Int.Bits.{xor_zero_r}
use Rattle.std.proofs.lemmas.Nat.Bits.{bit_at_or, bit_at_xor, same_from_bits}
use Rattle.rv_code.specs.Operations.{holds}
use Rattle.rv_code.specs.Signed.{signed, signed_less}
use Rattle.rv_code.specs.declared.operations.BranchTest.{BranchTest}
use Rattle.rv_code.specs.declared.operations.BranchTest.TheVariants.{Beq, Bge, Bgeu, Blt, Bltu, Bne}
use Rattle.certified_runs.specs.Bits.{Agree, decides_branch, decides_equal, decides_less, decides_signed_less, least, partly}
use Rattle.certified_runs.proofs.Agreeing.{agree_itself, same_greatest, same_known}
use Rattle.certified_runs.proofs.Carries.{above_least, at_most, below_greatest}
use Rattle.certified_runs.proofs.ShiftedBits.{signed_high, signed_low}

-- Without signs.

less_by : (low low' high high' c d : ℕ) → low ≤ c → c ≤ high → low' ≤ d → d ≤ high'
    → (nat_lt high low' || not (nat_lt low high')) ≡ true → nat_lt c d ≡ nat_lt high low'
less_by low low' high high' c d from to from' to' sure = elim (cases_lt high low') [
  | inl less ↦ lt-ltb c d (omega (arith, less)) ∙ sym (lt-ltb high low' less)
  | inr more ↦ elim (cases_lt low high') [
    | inl less ↦ absurd (no (le-ltb high low' more) (lt-ltb low high' less))
    | inr more' ↦ le-ltb c d (omega (arith, more')) ∙ sym (le-ltb high low' more)
  ]
]
  where
    no : nat_lt high low' ≡ false → nat_lt low high' ≡ true → ⊥
    no first second = let clash : false ≡ true = rw (first, second) at sure in cc

module _ {p q a b c d : ℕ} (one : Agree p a c) (other : Agree q b d) where
  less_of : decides_less (partly p a) (partly q b) ≡ true → nat_lt c d ≡ nat_lt (bit_or a p) (least (partly q b))
  less_of sure =
      let l = least (partly p a) in
      let l' = least (partly q b) in
      less_by l l' (bit_or a p) (bit_or b q) c d (at_most l c (above_least one))
      (at_most c (bit_or a p) (below_greatest one)) (at_most l' d (above_least other))
      (at_most d (bit_or b q) (below_greatest other)) sure

pub less_agrees : {p q a b c d : ℕ} → Agree p a c → Agree q b d → decides_less (partly p a) (partly q b) ≡ true
    → nat_lt c d ≡ nat_lt a b
less_agrees {p} {q} {a} {b} one other sure =
    less_of one other sure ∙ sym (less_of (agree_itself p a) (agree_itself q b) sure)

-- With signs: as words without, where the sign bits are flipped.

turned_low : (a : ℕ) → a < 2 ^ 31 → bit_xor a (2 ^ 31) ≡ a + 2 ^ 31
turned_low a low =
    let parts : a ≡ 0 * 2 ^ 31 + a = omega arith in
    ap (λ n. bit_xor n (2 ^ 31)) parts ∙ xor_block 31 0 1 a 0 low (omega arith)
    ∙ omega (arith, xor_zero_r a)

turned_high : (a : ℕ) → 2 ^ 31 ≤ a → a < 2 ^ 32 → bit_xor a (2 ^ 31) ≡ a - 2 ^ 31
turned_high a high fits =
    let parts : a ≡ 1 * 2 ^ 31 + (a - 2 ^ 31) = omega (arith, high) in
    ap (λ n. bit_xor n (2 ^ 31)) parts ∙ xor_block 31 1 1 (a - 2 ^ 31) 0 (omega (arith, fits)) (omega arith)
    ∙ omega (arith, xor_zero_r (a - 2 ^ 31))

same_test : (a b c d : ℕ) → (a < b → c < d) → (b ≤ a → d ≤ c) → nat_lt a b ≡ nat_lt c d
same_test a b c d less more = elim (cases_lt a b) [
  | inl first ↦ lt-ltb a b first ∙ sym (lt-ltb c d (less first))
  | inr second ↦ le-ltb a b second ∙ sym (le-ltb c d (more second))
]

pub less_turned : (a b : ℕ) → a < 2 ^ 32 → b < 2 ^ 32
    → signed_less a b ≡ nat_lt (bit_xor a (2 ^ 31)) (bit_xor b (2 ^ 31))
less_turned a b fits fits' = elim (cases_lt a (2 ^ 31)) [
  | inl low ↦ elim (cases_lt b (2 ^ 31)) [
    | inl low' ↦
        ap₂ int_lt (signed_low a low) (signed_low b low')
        ∙ same_test a b (a + 2 ^ 31) (b + 2 ^ 31) (λ less. omega (arith, less)) (λ more. omega (arith, more))
        ∙ sym (ap₂ nat_lt (turned_low a low) (turned_low b low'))
    | inr high' ↦
        ap₂ int_lt (signed_low a low) (signed_high b high')
        ∙ sym (ap₂ nat_lt (turned_low a low) (turned_high b high' fits')
        ∙ le-ltb (a + 2 ^ 31) (b - 2 ^ 31) (omega (arith, fits')))
  ]
  | inr high ↦ elim (cases_lt b (2 ^ 31)) [
    | inl low' ↦
        ap₂ int_lt (signed_high a high) (signed_low b low')
        ∙ sym (ap₂ nat_lt (turned_high a high fits) (turned_low b low')
        ∙ lt-ltb (a - 2 ^ 31) (b + 2 ^ 31) (omega (arith, fits)))
    | inr high' ↦
        ap₂ int_lt (signed_high a high) (signed_high b high')
        ∙ same_test (2 ^ 32 - suc b) (2 ^ 32 - suc a) (a - 2 ^ 31) (b - 2 ^ 31)
        (λ less. omega (arith, less, fits, fits', high, high'))
        (λ more. omega (arith, more, fits, fits', high, high'))
        ∙ sym (ap₂ nat_lt (turned_high a high fits) (turned_high b high' fits'))
  ]
]

-- with its sign flipped a number agrees with the greatest one so
flipped_agrees : {mask a b : ℕ} (sign : ℕ) → Agree mask a b
    → Agree mask (bit_xor (bit_or a mask) sign) (bit_xor b sign)
flipped_agrees {mask} {a} {b} sign agree = record {
  bits = λ i none.
      omega (
        arith,
        bit_at_xor b sign i,
        bit_at_xor (bit_or a mask) sign i,
        bit_at_or a mask i,
        none,
        agree.bits i none,
      );
}

pub signed_less_agrees : {p q a b c d : ℕ} → a < 2 ^ 32 → b < 2 ^ 32 → c < 2 ^ 32 → d < 2 ^ 32 → Agree p a c
    → Agree q b d → decides_signed_less (partly p a) (partly q b) ≡ true → signed_less c d ≡ signed_less a b
signed_less_agrees {p} {q} {a} {b} {c} {d} a-fits b-fits c-fits d-fits one other sure =
    let turn = 2 ^ 31 in
    less_turned c d c-fits d-fits
    ∙ less_agrees (flipped_agrees turn one) (flipped_agrees turn other) sure
    ∙ sym (less_agrees (flipped_agrees turn (agree_itself p a)) (flipped_agrees turn (agree_itself q b)) sure)
    ∙ sym (less_turned a b a-fits b-fits)

-- Equality.

unequal : (mask a b : ℕ) → nat_eq (bit_or a mask) (bit_or b mask) ≡ false → nat_eq a b ≡ false
unequal mask a b apart = ne_eqb a b (λ is. eqb-false (bit_or a mask) (bit_or b mask) apart (ap (λ n. bit_or n mask) is))

not_true : (b : Bool) → not b ≡ true → b ≡ false
not_true true is = cc
not_true false is = refl

-- where the bits are set that are unknown of either, words that agree are one number
wide_left : {p a c : ℕ} (q : ℕ) → Agree p a c → bit_or c (bit_or p q) ≡ bit_or (bit_or a p) (bit_or p q)
wide_left {p} {a} {c} q agree =
    same_greatest {mask = bit_or p q} {a = a} {b = c}
    (record { bits = λ i none. agree.bits i (omega (arith, bit_at_or p q i, none)) })
    ∙ same_from_bits (bit_or a (bit_or p q)) (bit_or (bit_or a p) (bit_or p q)) (λ i.
    omega (arith, bit_at_or a (bit_or p q) i, bit_at_or (bit_or a p) (bit_or p q) i, bit_at_or a p i, bit_at_or p q i))

wide_right : {q b d : ℕ} (p : ℕ) → Agree q b d → bit_or d (bit_or p q) ≡ bit_or (bit_or b q) (bit_or p q)
wide_right {q} {b} {d} p agree =
    same_greatest {mask = bit_or p q} {a = b} {b = d}
    (record { bits = λ i none. agree.bits i (omega (arith, bit_at_or p q i, none)) })
    ∙ same_from_bits (bit_or b (bit_or p q)) (bit_or (bit_or b q) (bit_or p q)) (λ i.
    omega (arith, bit_at_or b (bit_or p q) i, bit_at_or (bit_or b q) (bit_or p q) i, bit_at_or b q i, bit_at_or p q i))

pub equal_agrees : {p q a b c d : ℕ} → Agree p a c → Agree q b d → decides_equal (partly p a) (partly q b) ≡ true
    → nat_eq c d ≡ nat_eq a b
equal_agrees {p} {q} {a} {b} {c} {d} one other sure =
    let mask = bit_or p q in
    let most = bit_or (bit_or a p) mask in
    let most' = bit_or (bit_or b q) mask in
    elim (or_cases (nat_eq mask 0) (not (nat_eq most most')) sure) [
      | inl known ↦
          let none = eqb-true mask 0 known in
          let p-none : p ≡ 0 = omega (arith, none, le_or_l p q) in
          let q-none : q ≡ 0 = omega (arith, none, le_or_r p q) in
          ap₂ nat_eq (same_known (subst (λ m. Agree m a c) p-none one))
          (same_known (subst (λ m. Agree m b d) q-none other))
      | inr differ ↦
          let apart = not_true (nat_eq most most') differ in
          unequal mask c d (ap₂ nat_eq (wide_left q one) (wide_right p other) ∙ apart)
          ∙ sym (unequal mask a b
          (ap₂ nat_eq (wide_left q (agree_itself p a)) (wide_right p (agree_itself q b)) ∙ apart))
    ]

-- Branches.

pub nat_order : (a b : ℕ) → nat_le b a ≡ not (nat_lt a b)
nat_order a b = elim (cases_lt a b) [
  | inl less ↦ lt-leb b a less ∙ sym (ap not (lt-ltb a b less))
  | inr more ↦ le-leb b a more ∙ sym (ap not (le-ltb a b more))
]

pub int_order : (x y : ℤ) → int_le y x ≡ not (int_lt x y)
int_order (pos a) (pos b) = nat_order a b
int_order (pos a) (negsuc b) = refl
int_order (negsuc a) (pos b) = refl
int_order (negsuc a) (negsuc b) = nat_order b a

pub branch_agrees : {p q a b c d : ℕ} (test : BranchTest) → a < 2 ^ 32 → b < 2 ^ 32 → c < 2 ^ 32 → d < 2 ^ 32
    → Agree p a c → Agree q b d → decides_branch test (partly p a) (partly q b) ≡ true → holds test c d ≡ holds test a b
branch_agrees Beq a-fits b-fits c-fits d-fits one other sure = equal_agrees one other sure
branch_agrees Bne a-fits b-fits c-fits d-fits one other sure = ap not (equal_agrees one other sure)
branch_agrees Blt a-fits b-fits c-fits d-fits one other sure =
    signed_less_agrees a-fits b-fits c-fits d-fits one other sure
branch_agrees {a = a} {b = b} {c = c} {d = d} Bge a-fits b-fits c-fits d-fits one other sure =
    int_order (signed c) (signed d) ∙ ap not (signed_less_agrees a-fits b-fits c-fits d-fits one other sure)
    ∙ sym (int_order (signed a) (signed b))
branch_agrees Bltu a-fits b-fits c-fits d-fits one other sure = less_agrees one other sure
branch_agrees {a = a} {b = b} {c = c} {d = d} Bgeu a-fits b-fits c-fits d-fits one other sure =
    nat_order c d ∙ ap not (less_agrees one other sure) ∙ sym (nat_order a b)
