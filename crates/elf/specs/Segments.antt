-- Segments: the program headers of type PT_LOAD (gABI, chapter 5, "Program Header": `Elf32_Phdr`), which say what the
-- memory holds at the start.
use Rattle.std.specs.Prelude.{ℕ, zero, suc, ◌+◌, ◌/◌, ◌%◌, ◌^◌, Bool, not, ◌||◌, List, [], ◌∷◌, ◌++◌, map, filter}
use Rattle.std.specs.Prelude.{length, nat_le, nat_lt, ◌==◌, if◌then◌else◌}
use Rattle.std.specs.List.{list_all, sum_by}
use Rattle.elf.specs.Checks.{Check, check, is_inside}
use Rattle.elf.specs.Header.{program_header_count, program_headers_place}
use Rattle.elf.specs.Numbers.{part, word_at}
use Rattle.elf.specs.declared.fault.ElfRule.TheVariants as rules
use Rattle.elf.specs.declared.segment.Access.{Access}
use Rattle.elf.specs.declared.program_header.ProgramHeader.{ProgramHeader}

-- the program header at a place
unfoldable pub program_header_at : ℕ → List ℕ → ProgramHeader
program_header_at place file =
    record {
      place = place;
      kind = word_at place file;
      offset = word_at (place + 4) file;
      address = word_at (place + 8) file;
      file_size = word_at (place + 16) file;
      memory_size = word_at (place + 20) file;
      flags = word_at (place + 24) file;
    }

-- so many from a place on
abbrev pub program_headers_from : ℕ → ℕ → List ℕ → List ProgramHeader
program_headers_from zero place file = []
program_headers_from (suc n) place file =
    program_header_at place file ∷ program_headers_from n (place + 32) file

abbrev pub program_headers : List ℕ → List ProgramHeader
program_headers file = program_headers_from (program_header_count file) (program_headers_place file) file

-- PT_LOAD
abbrev pub is_load : ProgramHeader → Bool
is_load header = header.kind == 1

-- PT_DYNAMIC and PT_INTERP: a program that is linked when it is started
abbrev pub is_dynamic : ProgramHeader → Bool
is_dynamic header = (header.kind == 2) || (header.kind == 3)

-- A segment: its first address, the bytes that the file has of it, how many it has in memory, and what may be done with
-- them (PF_R, PF_W and PF_X: bits 2, 1 and 0). Those that the file does not have are 0.
pub record LoadedSegment : Type 0 where
  pub address : ℕ
  pub bytes : List ℕ
  pub size : ℕ
  pub access : Access

abbrev pub access_of : ℕ → Access
access_of flags =
    record { readable = flags / 4 % 2 == 1; writable = flags / 2 % 2 == 1; executable = flags % 2 == 1 }

abbrev pub segment_of : List ℕ → ProgramHeader → LoadedSegment
segment_of file header =
    record {
      address = header.address;
      bytes = part header.offset header.file_size file;
      size = header.memory_size;
      access = access_of header.flags;
    }

-- the segments of program headers, in their order
abbrev pub segments_in : List ℕ → List ProgramHeader → List LoadedSegment
segments_in file headers = map (segment_of file) (filter is_load headers)

unfoldable pub segments_of : List ℕ → List LoadedSegment
segments_of file = segments_in file (program_headers file)

-- no address is in both: one ends where the other begins, or before
abbrev pub lies_apart : LoadedSegment → LoadedSegment → Bool
lies_apart a b = nat_le (a.address + a.size) b.address || nat_le (b.address + b.size) a.address

-- how many bytes of memory segments have together
abbrev pub memory_of : List LoadedSegment → ℕ
memory_of segments = sum_by (λ segment. segment.size) segments

-- the most that they may have, 16 MiB
abbrev pub most_memory : ℕ
most_memory = 2 ^ 24

-- the most segments that there may be, so that looking through them takes little time
abbrev pub most_segments : ℕ
most_segments = 64

-- what has to hold of a header, by the segments of those before
abbrev pub load_checks : List ℕ → List LoadedSegment → ProgramHeader → List Check
load_checks file before header =
    check rules.Ranges header.place (nat_lt (length before) most_segments)
    ∷ check rules.Truncated (header.place + 4) (is_inside header.offset header.file_size file)
    ∷ check rules.Ranges (header.place + 8) (list_all (lies_apart (segment_of file header)) before)
    ∷ check rules.Ranges (header.place + 8) (nat_le (header.address + header.memory_size) (2 ^ 32))
    ∷ check rules.NotProgram (header.place + 16) (nat_le header.file_size header.memory_size)
    ∷ check rules.Ranges (header.place + 20) (nat_le (memory_of before + header.memory_size) most_memory)
    ∷ []

abbrev pub other_checks : ProgramHeader → List Check
other_checks header = check rules.NotProgram header.place (not (is_dynamic header)) ∷ []

abbrev pub checks_at : List ℕ → List LoadedSegment → ProgramHeader → List Check
checks_at file before header = if is_load header then load_checks file before header else other_checks header

abbrev pub checks_from : List ℕ → List LoadedSegment → List ProgramHeader → List Check
checks_from file before [] = []
checks_from file before (header ∷ headers) =
    checks_at file before header ++ checks_from file (before ++ segments_in file (header ∷ [])) headers

unfoldable pub segment_checks : List ℕ → List Check
segment_checks file = checks_from file [] (program_headers file)
