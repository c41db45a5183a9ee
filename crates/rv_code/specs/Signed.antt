-- Words and fields as numbers with a sign, in two's complement: RISC-V Unprivileged ISA, sections "Programmers' Model
-- for Base Integer ISA" and "Immediate Encoding Variants".
use Rattle.std.specs.Prelude.{ℕ, ℤ, ◌+◌, ◌-◌, ◌%◌, ◌^◌, pos, ◌-ℤ◌, Bool, nat_lt, int_lt, if◌then◌else◌}
use Rattle.std.specs.Int.{w32, cast_signed, cast_unsigned, int_shr}

-- the number that a field of so many bits stands for, its highest bit being the sign
abbrev pub signed_value : ℕ → ℕ → ℤ
signed_value bits field = if nat_lt field (2 ^ (bits - 1)) then pos field else (pos field -ℤ pos (2 ^ bits))

-- the number from -2^31 to 2^31 - 1 that a word stands for
abbrev pub signed : ℕ → ℤ
signed a = cast_signed w32 a

-- the word that stands for such a number, and for 2^31, modulo 2^32
abbrev pub word_for : ℤ → ℕ
word_for z = cast_unsigned w32 z

-- the word that a field of so many bits stands for, modulo 2^32
abbrev pub sign_extended : ℕ → ℕ → ℕ
sign_extended bits field = if nat_lt field (2 ^ (bits - 1)) then field else field + (2 ^ 32 - 2 ^ bits)

-- the high word of a product: divided by 2^32, rounded down, and modulo 2^32
abbrev pub high_word : ℤ → ℕ
high_word product = word_for (int_shr product 32)

-- whether a word is less than another, both with signs
abbrev pub signed_less : ℕ → ℕ → Bool
signed_less a b = int_lt (signed a) (signed b)

-- a shift to the right by the low five bits of k that keeps the sign: divided by a power of two, rounded down
abbrev pub shifted_signed : ℕ → ℕ → ℕ
shifted_signed a k = word_for (int_shr (signed a) (k % 32))
