-- What each operator makes of words, in whole numbers modulo 2^w for words of w bits. The operators that are not
-- here are the standard library's: `&`, `|` and `^` are `bit_and`, `bit_or` and `bit_xor`, comparisons are those of
-- naturals, `==`, `nat_lt` and `nat_le`, and the operators on conditions are `&&`, `||` and `not`.
use Rattle.std.specs.Prelude.{ℕ, ◌+◌, ◌-◌, ◌*◌, ◌/◌, ◌%◌, ◌^◌, Bool, true, false, bit_and, bit_or}
use Rattle.word.specs.declared.width.Width.{Width}
use Rattle.word.specs.declared.width.Width.TheVariants.{W32}
use Rattle.word.specs.Widths.{bits}

-- the word that a number is, modulo 2^w
abbrev pub wrapped : Width → ℕ → ℕ
wrapped w n = n % 2 ^ bits w

-- `a + b`
abbrev pub sum : Width → ℕ → ℕ → ℕ
sum w a b = (a + b) % 2 ^ bits w

-- prefix `-a`
abbrev pub negated : Width → ℕ → ℕ
negated w a = (2 ^ bits w - a % 2 ^ bits w) % 2 ^ bits w

-- `a - b`
abbrev pub difference : Width → ℕ → ℕ → ℕ
difference w a b = (a + (2 ^ bits w - b % 2 ^ bits w)) % 2 ^ bits w

-- `a * b`
abbrev pub product : Width → ℕ → ℕ → ℕ
product w a b = (a * b) % 2 ^ bits w

-- `a / b`, for b other than 0
abbrev pub quotient : ℕ → ℕ → ℕ
quotient a b = a / b

-- `a % b`, for b other than 0
abbrev pub remainder : ℕ → ℕ → ℕ
remainder a b = a % b

-- `~a`
abbrev pub complemented : Width → ℕ → ℕ
complemented w a = 2 ^ bits w - 1 - a % 2 ^ bits w

-- `a << k`
abbrev pub shifted_left : Width → ℕ → ℕ → ℕ
shifted_left w a k = (a * 2 ^ (k % 32)) % 2 ^ bits w

-- `a >> k`
abbrev pub shifted_right : Width → ℕ → ℕ → ℕ
shifted_right w a k = (a / 2 ^ (k % 32)) % 2 ^ bits w

-- `a <<< k`: a's bits moved up by j, and those of its j highest bits at the bottom
abbrev pub rotated_left : Width → ℕ → ℕ → ℕ
rotated_left w a k =
    let n = wrapped w a in let j = k % bits w in
    (n * 2 ^ j + n / 2 ^ (bits w - j)) % 2 ^ bits w

-- a word of any width, cut or extended with 0
abbrev pub converted : Width → ℕ → ℕ
converted w a = a % 2 ^ bits w

-- the word that a condition is
abbrev pub word_of : Bool → ℕ
word_of false = 0
word_of true = 1

-- the mask of a condition
abbrev pub mask : Bool → ℕ
mask false = 0
mask true = 2 ^ 32 - 1

-- `select` by a mask: the bits of a where the mask has ones, those of b where it has zeros
abbrev pub selected : ℕ → ℕ → ℕ → ℕ
selected m a b = bit_or (bit_and a m) (bit_and b (complemented W32 m))
