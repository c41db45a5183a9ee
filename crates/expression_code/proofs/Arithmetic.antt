-- Arithmetic of addresses, of numbers in two parts, and of masks.
use Rattle.std.proofs.Common.{◌≡◌, ℕ, ◌+◌, ◌-◌, ◌*◌, ◌%◌, ◌^◌, ◌<◌, ◌==◌, Bool, true, false, not, ◌&&◌, if◌then◌else◌}
use Rattle.std.proofs.Common.{bit_and, bit_xor, refl, sym, ap, ◌∙◌, arith}
use Rattle.expression_code.proofs.Below.{lower_part, nat_tests, upper_part, and_mask, xor_of_32, sum_of}
use Rattle.expression_code.proofs.Below.{difference_of, sign_extended}
use Rattle.std.specs.Int.{bit_at, w32}
use Rattle.std.specs.Int.Bits.{and_zero_r, xor_zero_r}
use Rattle.std.proofs.lemmas.Nat.Bits.{bit_at_not, bit_at_ones, bit_at_xor, bit_at-lt, same_from_bits}
use Rattle.std.proofs.lemmas.Nat.Bits.{same_from_bits_below}

-- the upper and the lower part make the number
pub parts : (n : ℕ) → n < 2 ^ 32 → sum_of (upper_part n * 2 ^ 12) (sign_extended 12 (lower_part n)) ≡ n
parts n below = grind (arith, nat_tests)

-- and with a base added between them an address
pub far_address : (frame n : ℕ) → frame + n < 2 ^ 32
    → sum_of (sum_of (upper_part n * 2 ^ 12) frame) (sign_extended 12 (lower_part n)) ≡ frame + n
far_address frame n below = omega (arith, parts n (omega arith), below)

pub near_address : (frame n : ℕ) → n < 2048 → frame + n < 2 ^ 32 → sum_of frame (sign_extended 12 n) ≡ frame + n
near_address frame n near below = grind (arith, nat_tests)

pub upper_fits : (n : ℕ) → upper_part n < 2 ^ 20
upper_fits n = omega arith

pub lower_fits : (n : ℕ) → lower_part n < 2 ^ 12
lower_fits n = omega arith

-- Masks.

-- a control value's word
abbrev pub mask_of : Bool → ℕ
mask_of b = if b then 4294967295 else 0

pub mask_fits : (b : Bool) → mask_of b < 2 ^ 32
mask_fits b = grind (arith, nat_tests)

-- the masks of a condition
pub mask_when : (v : ℕ) → v < 2 → difference_of 0 v ≡ mask_of (not (v == 0))
mask_when v h = grind (arith, nat_tests)

pub mask_otherwise : (v : ℕ) → v < 2 → sum_of v 4294967295 ≡ mask_of (v == 0)
mask_otherwise v h = grind (arith, nat_tests)

-- two masks joined, the enclosing one second
pub masks_join : (outer inner : Bool) → bit_and (mask_of inner) (mask_of outer) ≡ mask_of (outer && inner)
masks_join outer inner = grind (arith, nat_tests)

-- the new word under a mask, and the old one elsewhere
abbrev pub merged : ℕ → ℕ → ℕ → ℕ
merged mask old new = bit_xor old (bit_and (bit_xor new old) mask)

bit_back : (a b i : ℕ) → bit_at (bit_xor b (bit_xor a b)) i ≡ bit_at a i
bit_back a b i =
    bit_at_xor b (bit_xor a b) i
    ∙ (ap (λ x. (bit_at b i + x) % 2) (bit_at_xor a b i)
    ∙ omega (arith, bit_at-lt a i, bit_at-lt b i))

-- where each bit is changed
pub all_changed : (x : ℕ) → x < 2 ^ 32 → bit_xor x 4294967295 ≡ 2 ^ 32 - 1 - x
all_changed x below =
    same_from_bits_below 32 (bit_xor x 4294967295) (2 ^ 32 - 1 - x) (xor_of_32 x 4294967295 below (omega arith))
    (omega arith)
    (λ i within.
    let changed : (bit_at x i + 1) % 2 ≡ 1 - bit_at x i = omega (arith, bit_at-lt x i) in
    bit_at_xor x 4294967295 i
    ∙ (ap (λ b. (bit_at x i + b) % 2) (bit_at_ones 32 i within) ∙ (changed ∙ sym (bit_at_not w32 x i below within))))

all_ones : (x : ℕ) → x < 2 ^ 32 → bit_and x 4294967295 ≡ x
all_ones x below = omega (arith, and_mask x 32)

pub merge : (b : Bool) (old new : ℕ) → old < 2 ^ 32 → new < 2 ^ 32
    → merged (mask_of b) old new ≡ (if b then new else old)
merge true old new p q = ap (bit_xor old) (all_ones (bit_xor new old) (xor_of_32 new old q p))
    ∙ same_from_bits _ new (bit_back new old)
merge false old new p q = ap (bit_xor old) (and_zero_r (bit_xor new old)) ∙ xor_zero_r old

-- whether a condition is true, by what is made of it: itself, or its opposite
abbrev pub picks : Bool → ℕ → Bool
picks true v = v == 0
picks false v = not (v == 0)

abbrev pub mask_from : Bool → ℕ → ℕ
mask_from true v = sum_of v 4294967295
mask_from false v = difference_of 0 v

pub if_not : (b : Bool) (x y : ℕ) → (if not b then x else y) ≡ (if b then y else x)
if_not true x y = refl
if_not false x y = refl

mask_is : (is_opposite : Bool) (v : ℕ) → v < 2 → mask_from is_opposite v ≡ mask_of (picks is_opposite v)
mask_is true v h = mask_otherwise v h
mask_is false v h = mask_when v h

-- the choice of a where the condition is true, of b where it is not
abbrev pub chosen : Bool → ℕ → ℕ → ℕ → ℕ
chosen is_opposite c a b = merged (mask_from is_opposite c) b a

pub choice : (is_opposite : Bool) (c a b : ℕ) → c < 2 → a < 2 ^ 32 → b < 2 ^ 32
    → chosen is_opposite c a b ≡ (if picks is_opposite c then a else b)
choice is_opposite c a b h p q =
    ap (λ m. merged m b a) (mask_is is_opposite c h) ∙ merge (picks is_opposite c) b a q p

-- what a has under the mask: a where the condition is true, and else 0
abbrev pub chosen_or_zero : Bool → ℕ → ℕ → ℕ
chosen_or_zero is_opposite c a = bit_and a (mask_from is_opposite c)

under_mask : (b : Bool) (a : ℕ) → a < 2 ^ 32 → bit_and a (mask_of b) ≡ (if b then a else 0)
under_mask true a p = all_ones a p
under_mask false a p = and_zero_r a

pub choice_or_zero : (is_opposite : Bool) (c a : ℕ) → c < 2 → a < 2 ^ 32
    → chosen_or_zero is_opposite c a ≡ (if picks is_opposite c then a else 0)
choice_or_zero is_opposite c a h p = ap (bit_and a) (mask_is is_opposite c h) ∙ under_mask (picks is_opposite c) a p
