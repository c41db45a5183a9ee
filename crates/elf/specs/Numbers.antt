-- The numbers in a file, which have their lowest byte first (ELFDATA2LSB: gABI, chapter 4, "Data Representation").
use Rattle.std.specs.Prelude.{ℕ, List, drop, take}
use Rattle.byteorder.specs.Endian.{little_number}

-- the number in so many bytes from a place on. A byte behind the end of the file is 0
unfoldable pub number_at : ℕ → ℕ → List ℕ → ℕ
number_at size place file = little_number size (drop place file)

abbrev pub byte_at : ℕ → List ℕ → ℕ
byte_at place file = number_at 1 place file

abbrev pub half_at : ℕ → List ℕ → ℕ
half_at place file = number_at 2 place file

abbrev pub word_at : ℕ → List ℕ → ℕ
word_at place file = number_at 4 place file

-- so many bytes from a place on
abbrev pub part : ℕ → ℕ → List ℕ → List ℕ
part place size file = take size (drop place file)
