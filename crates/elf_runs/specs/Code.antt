-- The code of a program: what the file has of the segments that may be executed, as words at addresses that are
-- multiples of 4, or, where instructions of 16 bits may stand in it, as halfwords at even addresses.
use Rattle.std.specs.Prelude.{ℕ, ◌+◌, ◌-◌, ◌%◌, Bool, List, [], ◌∷◌, drop, filter, map, if◌then◌else◌}
use Rattle.std.specs.Int.{from_le_bytes, w16, w32}
use Rattle.elf_runs.specs.Below.{Executable, LoadedSegment}
use Rattle.elf_runs.specs.declared.loaded_code.Code.{Code}
use Rattle.elf_runs.specs.declared.loaded_code.Code.TheVariants.{Halfwords, Words}

-- code, from an address on
pub data PlacedCode : Type 0 where
  words_from : ℕ → List ℕ → PlacedCode
  halfwords_from : ℕ → List ℕ → PlacedCode

-- code as the code of this crate has it
abbrev pub placed : Code → PlacedCode
placed (Words code) = words_from code.begin code.words.items
placed (Halfwords code) = halfwords_from code.begin code.halfwords.items

-- the words of bytes, the lowest byte first. A rest that is shorter is none
abbrev pub words_of : List ℕ → List ℕ
words_of (a ∷ b ∷ c ∷ d ∷ bytes) = from_le_bytes w32 (a ∷ b ∷ c ∷ d ∷ []) ∷ words_of bytes
words_of _ = []

-- the halfwords of bytes, likewise
abbrev pub halfwords_of : List ℕ → List ℕ
halfwords_of (a ∷ b ∷ bytes) = from_le_bytes w16 (a ∷ b ∷ []) ∷ halfwords_of bytes
halfwords_of _ = []

-- so many bytes behind an address is the next multiple of a size
abbrev pub to_multiple : ℕ → ℕ → ℕ
to_multiple size address = (size - address % size) % size

-- the code of a segment in units of so many bytes, from the first address on that is a multiple of them
abbrev pub aligned_code : ℕ → (List ℕ → List ℕ) → (ℕ → List ℕ → PlacedCode) → LoadedSegment → PlacedCode
aligned_code size units from segment =
    let skipped = to_multiple size segment.address in
    from (segment.address + skipped) (units (drop skipped segment.bytes))

abbrev pub word_code : LoadedSegment → PlacedCode
word_code = aligned_code 4 words_of words_from

abbrev pub halfword_code : LoadedSegment → PlacedCode
halfword_code = aligned_code 2 halfwords_of halfwords_from

-- the code of a segment of a program that says, or does not, that instructions of 16 bits may stand in it
abbrev pub code_of : Bool → LoadedSegment → PlacedCode
code_of compressed segment = if compressed then halfword_code segment else word_code segment

abbrev pub is_executable : LoadedSegment → Bool
is_executable segment = segment.access.executable

abbrev pub code_in : Bool → List LoadedSegment → List PlacedCode
code_in compressed segments = map (code_of compressed) (filter is_executable segments)

abbrev pub program_code : Executable → List PlacedCode
program_code program = code_in program.compressed program.segments
