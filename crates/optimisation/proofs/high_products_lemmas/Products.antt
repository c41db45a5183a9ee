-- The upper word of a product is made of the products of its factors' halves.
use Rattle.std.proofs.Common.{◌≡◌, ℕ, ◌+◌, ◌*◌, ◌/◌, ◌%◌, ◌^◌, ◌<◌, bit_and, refl, sym, ap, ap₂, ◌∙◌, arith}
use Rattle.std.proofs.lemmas.Nat.{and_mask, mul-lt}
use Rattle.language.specs.Operators.{high_product}
use Rattle.word.specs.Operators.{product, sum}
use Rattle.optimisation.specs.Below.{shifted_right, W32}

-- the upper word of the product of a and b, of halves of theirs
abbrev pub of_halves : (h l k j : ℕ) → ℕ
of_halves h l k j =
    sum W32 (sum W32 (sum W32 (product W32 h k) (shifted_right W32 (product W32 h j) 16))
    (shifted_right W32 (product W32 l k) 16))
    (shifted_right W32 (sum W32 (sum W32 (shifted_right W32 (product W32 l j) 16) (bit_and (product W32 h j) 65535))
    (bit_and (product W32 l k) 65535)) 16)

-- the product of two numbers, by their halves
by_halves : (h l k j : ℕ)
    → (h * 2 ^ 16 + l) * (k * 2 ^ 16 + j) ≡ h * k * 2 ^ 32 + (h * j + l * k) * 2 ^ 16 + l * j
by_halves h l k j = omega arith

-- the products of two halves make the upper word, where they are words and so is that
of_products : (x y z w : ℕ) → x < 2 ^ 32 → y < 2 ^ 32 → z < 2 ^ 32 → w < 2 ^ 32
    → (x * 2 ^ 32 + (y + z) * 2 ^ 16 + w) / 2 ^ 32 < 2 ^ 32
    → (((x % 2 ^ 32 + y % 2 ^ 32 / 2 ^ 16 % 2 ^ 32) % 2 ^ 32 + z % 2 ^ 32 / 2 ^ 16 % 2 ^ 32) % 2 ^ 32
    + ((w % 2 ^ 32 / 2 ^ 16 % 2 ^ 32 + y % 2 ^ 32 % 2 ^ 16) % 2 ^ 32 + z % 2 ^ 32 % 2 ^ 16) % 2 ^ 32 / 2 ^ 16 % 2 ^ 32)
    % 2 ^ 32
    ≡ (x * 2 ^ 32 + (y + z) * 2 ^ 16 + w) / 2 ^ 32
of_products x y z w one two three four whole = omega arith

-- masks are remainders
masked : (h l k j : ℕ) → of_halves h l k j
    ≡ (((h * k % 2 ^ 32 + h * j % 2 ^ 32 / 2 ^ 16 % 2 ^ 32) % 2 ^ 32 + l * k % 2 ^ 32 / 2 ^ 16 % 2 ^ 32) % 2 ^ 32
    + ((l * j % 2 ^ 32 / 2 ^ 16 % 2 ^ 32 + h * j % 2 ^ 32 % 2 ^ 16) % 2 ^ 32 + l * k % 2 ^ 32 % 2 ^ 16) % 2 ^ 32
    / 2 ^ 16 % 2 ^ 32)
    % 2 ^ 32
masked h l k j = rw (and_mask (h * j % 2 ^ 32) 16, and_mask (l * k % 2 ^ 32) 16) refl

words_below : (h l k j : ℕ) → h < 2 ^ 16 → l < 2 ^ 16 → k < 2 ^ 16 → j < 2 ^ 16
    → of_halves h l k j ≡ (h * 2 ^ 16 + l) * (k * 2 ^ 16 + j) / 2 ^ 32
words_below h l k j one two three four =
    let x = mul-lt h k (2 ^ 16) (2 ^ 16) one three in
    let y = mul-lt h j (2 ^ 16) (2 ^ 16) one four in
    let z = mul-lt l k (2 ^ 16) (2 ^ 16) two three in
    let w = mul-lt l j (2 ^ 16) (2 ^ 16) two four in
    let all = mul-lt (h * 2 ^ 16 + l) (k * 2 ^ 16 + j) (2 ^ 32) (2 ^ 32) (omega arith) (omega arith) in
    let whole = by_halves h l k j in
    masked h l k j
    ∙ (of_products (h * k) (h * j) (l * k) (l * j) (omega arith) (omega arith) (omega arith) (omega arith)
    (omega (arith, all, whole))
    ∙ sym (ap (λ n. n / 2 ^ 32) whole))

-- the halves of two words make the upper word of their product
pub upper_word : (a b : ℕ) → a < 2 ^ 32 → b < 2 ^ 32
    → of_halves (shifted_right W32 a 16) (bit_and a 65535) (shifted_right W32 b 16) (bit_and b 65535)
    ≡ high_product a b
upper_word a b one other =
    let halves : (n : ℕ) → n < 2 ^ 32 → shifted_right W32 n 16 ≡ n / 2 ^ 16 = λ n below. omega arith in
    rw (halves a one, halves b other, and_mask a 16, and_mask b 16)
    (words_below (a / 2 ^ 16) (a % 2 ^ 16) (b / 2 ^ 16) (b % 2 ^ 16) (omega arith) (omega arith) (omega arith)
    (omega arith)
    ∙ ap₂ (λ n m. n * m / 2 ^ 32) (omega arith) (omega arith))
