-- What each image begins with, and how long it may be.
use Rattle.std.specs.Prelude.{ℕ}

-- the bytes `FACI`, as a number, the first of them the lowest
abbrev pub magic_number : ℕ
magic_number = 0x4943_4146

-- the version of the format
abbrev pub format_version : ℕ
format_version = 1

-- the most bytes that spell an image: 33, 9 for each of the most parameters and 4 for each of the most code words
abbrev pub longest_image : ℕ
longest_image = 842017
