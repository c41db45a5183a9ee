-- A number and its bytes determine each other.
use Rattle.std.proofs.Common.{◌≡◌, ℕ, zero, suc, ◌+◌, ◌*◌, ◌/◌, ◌%◌, ◌^◌, ◌<◌, ◌≤◌, List, [], ◌∷◌, ◌++◌, length}
use Rattle.std.proofs.Common.{get_or, drop, refl, sym, ap, ◌∙◌, arith}
use Rattle.std.proofs.ByRecursion.{All-from_get_or}
use Rattle.std.proofs.Math.Nat.{div-div-eq-div-mul, mod-lt, pow-succ'}
use Rattle.std.specs.Int.{byte_at, bytes_low_first}
use Rattle.byteorder.specs.Endian.{little_bytes, little_number}
use Rattle.byteorder.specs.Numbers.{little_from-cons, little_from-lt}
use Rattle.image.specs.Reading.{AreBytes}

-- ---- bytes, one by one

pub all_bytes : (bytes : List ℕ) → ((i : ℕ) → get_or bytes i 0 < 256) → AreBytes bytes
all_bytes bytes each = All-from_get_or (λ byte. byte < 256) bytes 0 (λ i inside. each i)

each_byte : (bytes : List ℕ) → AreBytes bytes → (i : ℕ) → get_or bytes i 0 < 256
each_byte [] all i = omega arith
each_byte (b ∷ bytes) all zero = all.0
each_byte (b ∷ bytes) all (suc i) = each_byte bytes all.1 i

pub front_bytes : (xs ys : List ℕ) → AreBytes (xs ++ ys) → AreBytes xs
front_bytes [] ys all = tt
front_bytes (x ∷ xs) ys all = (all.0, front_bytes xs ys all.1)

pub back_bytes : (xs ys : List ℕ) → AreBytes (xs ++ ys) → AreBytes ys
back_bytes [] ys all = all
back_bytes (x ∷ xs) ys all = back_bytes xs ys all.1

-- ---- the bytes of a number

byte_small : (j n : ℕ) → byte_at j n < 256
byte_small zero n = mod-lt n {m = 256} (omega arith)
byte_small (suc j) n = mod-lt (n / 256 ^ suc j) {m = 256} (omega arith)

pub number_bytes : (j k n : ℕ) → AreBytes (bytes_low_first j k n)
number_bytes j zero n = tt
number_bytes j (suc k) n = (byte_small j n, number_bytes (suc j) k n)

byte_moved : (j n : ℕ) → byte_at (suc j) n ≡ byte_at j (n / 256)
byte_moved zero n = refl
byte_moved (suc j) n =
    ap (λ p. n / p % 256) (pow-succ' 256 (suc j)) ∙ ap (λ q. q % 256) (sym (div-div-eq-div-mul n 256 (256 ^ suc j)))

bytes_moved : (j k n : ℕ) → bytes_low_first (suc j) k n ≡ bytes_low_first j k (n / 256)
bytes_moved j zero n = refl
bytes_moved j (suc k) n = rw (byte_moved j n, bytes_moved (suc j) k n) refl

-- the bytes of the number that the first bytes make are those bytes
pub number_back : (n : ℕ) (bytes : List ℕ)
    → n ≤ length bytes → AreBytes bytes → little_bytes n (little_number n bytes) ++ drop n bytes ≡ bytes
number_back zero bytes le all = refl
number_back (suc n) [] le all = absurd (omega arith)
number_back (suc n) (b ∷ bytes) le all =
    let x = little_number n bytes in
    let is : little_number (suc n) (b ∷ bytes) ≡ b + 256 * x =
    ap (λ (r : ℕ). b + 256 * r) (little_from-cons 0 n b bytes) in
    let small = all.0 in
    let low : (b + 256 * x) % 256 ≡ b = omega (arith, small) in
    let high : (b + 256 * x) / 256 ≡ x = omega (arith, small) in
    rw (is, bytes_moved 0 n (b + 256 * x), low, high, number_back n bytes (omega arith) all.1) refl

pub number_fits : (n : ℕ) (bytes : List ℕ) → AreBytes bytes → little_number n bytes < 256 ^ n
number_fits n bytes all = little_from-lt 0 n bytes (each_byte bytes all)
