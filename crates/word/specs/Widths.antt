-- The widths of words.
use Rattle.std.specs.Prelude.{ℕ, ◌^◌, ◌<◌}
use Rattle.word.specs.declared.width.Width.{Width}
use Rattle.word.specs.declared.width.Width.TheVariants.{W8, W16, W32}

-- how many bits
abbrev pub bits : Width → ℕ
bits W8 = 8
bits W16 = 16
bits W32 = 32

-- the words of a width
abbrev pub IsWord : Width → ℕ → Type 0
IsWord w a = a < 2 ^ bits w
