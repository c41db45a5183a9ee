-- The file header (gABI, chapter 4, "ELF Header": `Elf32_Ehdr`), and the flags in it (RISC-V psABI, "ELF Object Files",
-- "File Header").
use Rattle.std.specs.Prelude.{ℕ, ◌+◌, ◌*◌, ◌/◌, ◌%◌, Bool, true, ◌||◌, List, [], ◌∷◌, length, nat_le, ◌==◌}
use Rattle.std.specs.List.{flat_map}
use Rattle.word.specs.declared.width.Width.{Width}
use Rattle.word.specs.declared.width.Width.TheVariants.{W8, W16, W32}
use Rattle.elf.specs.Checks.{Check, check, is_inside}
use Rattle.elf.specs.Numbers.{half_at, number_at, word_at}
use Rattle.elf.specs.declared.fault.ElfRule.TheVariants.{NotProgram, Truncated}
use Rattle.elf.specs.declared.header.Field.{Field}
use Rattle.elf.specs.declared.header.Field.TheVariants as fields
use Rattle.elf.specs.declared.header.Row.{Row}

-- where the run begins
abbrev pub entry_of : List ℕ → ℕ
entry_of file = word_at 24 file

-- where the program headers begin, and how many there are
abbrev pub program_headers_place : List ℕ → ℕ
program_headers_place file = word_at 28 file

abbrev pub program_header_count : List ℕ → ℕ
program_header_count file = half_at 44 file

-- where the section headers begin, and how many there are
abbrev pub section_headers_place : List ℕ → ℕ
section_headers_place file = word_at 32 file

abbrev pub section_header_count : List ℕ → ℕ
section_header_count file = half_at 48 file

-- bit 0 of the flags, EF_RISCV_RVC: the code may have instructions of 16 bits
abbrev pub is_compressed : List ℕ → Bool
is_compressed file = word_at 36 file % 2 == 1

-- bits 1 and 2 of the flags, the ABI for floating point, and bit 3, EF_RISCV_RVE, are 0
abbrev pub are_flags : ℕ → Bool
are_flags flags = flags / 2 % 8 == 0

-- at which byte each field stands, how wide it is, and which rule another value than those allowed breaks
abbrev pub row : Field → Row
row fields.Magic = record { place = 0; width = W32; rule = NotProgram }
row fields.Class = record { place = 4; width = W8; rule = NotProgram }
row fields.Data = record { place = 5; width = W8; rule = NotProgram }
row fields.IdentVersion = record { place = 6; width = W8; rule = NotProgram }
row fields.FileType = record { place = 16; width = W16; rule = NotProgram }
row fields.Machine = record { place = 18; width = W16; rule = NotProgram }
row fields.Version = record { place = 20; width = W32; rule = NotProgram }
row fields.Entry = record { place = 24; width = W32; rule = NotProgram }
row fields.ProgramHeaders = record { place = 28; width = W32; rule = Truncated }
row fields.SectionHeaders = record { place = 32; width = W32; rule = Truncated }
row fields.Flags = record { place = 36; width = W32; rule = NotProgram }
row fields.ProgramHeaderSize = record { place = 42; width = W16; rule = NotProgram }
row fields.ProgramHeaderCount = record { place = 44; width = W16; rule = NotProgram }
row fields.SectionHeaderSize = record { place = 46; width = W16; rule = NotProgram }
row fields.SectionHeaderCount = record { place = 48; width = W16; rule = NotProgram }

-- which values a field may have: the bytes 7f 45 4c 46 (`ELF` behind 7f); ELFCLASS32, ELFDATA2LSB, EV_CURRENT; ET_EXEC,
-- EM_RISCV, EV_CURRENT; tables that are in the file; the sizes of `Elf32_Phdr` and `Elf32_Shdr` where there are any
abbrev pub is_allowed : Field → List ℕ → ℕ → Bool
is_allowed fields.Magic file n = n == 0x464c_457f
is_allowed fields.Class file n = n == 1
is_allowed fields.Data file n = n == 1
is_allowed fields.IdentVersion file n = n == 1
is_allowed fields.FileType file n = n == 2
is_allowed fields.Machine file n = n == 243
is_allowed fields.Version file n = n == 1
is_allowed fields.Entry file n = true
is_allowed fields.ProgramHeaders file n = nat_le (n + 32 * program_header_count file) (length file)
is_allowed fields.SectionHeaders file n = nat_le (n + 40 * section_header_count file) (length file)
is_allowed fields.Flags file n = are_flags n
is_allowed fields.ProgramHeaderSize file n = (program_header_count file == 0) || (n == 32)
is_allowed fields.ProgramHeaderCount file n = true
is_allowed fields.SectionHeaderSize file n = (section_header_count file == 0) || (n == 40)
is_allowed fields.SectionHeaderCount file n = true

-- how many bytes a field of a width has
abbrev pub bytes_of : Width → ℕ
bytes_of W8 = 1
bytes_of W16 = 2
bytes_of W32 = 4

-- the value of a field
abbrev pub value_of : Field → List ℕ → ℕ
value_of field file = number_at (bytes_of (row field).width) (row field).place file

-- the fields in their order. What is not among them is not looked at
abbrev pub fields_in_order : List Field
fields_in_order =
    fields.Magic
    ∷ fields.Class
    ∷ fields.Data
    ∷ fields.IdentVersion
    ∷ fields.FileType
    ∷ fields.Machine
    ∷ fields.Version
    ∷ fields.Entry
    ∷ fields.ProgramHeaders
    ∷ fields.SectionHeaders
    ∷ fields.Flags
    ∷ fields.ProgramHeaderSize
    ∷ fields.ProgramHeaderCount
    ∷ fields.SectionHeaderSize
    ∷ fields.SectionHeaderCount
    ∷ []

-- a field is in the file, and its value is allowed
abbrev pub field_checks : List ℕ → Field → List Check
field_checks file field =
    check Truncated (row field).place (is_inside (row field).place (bytes_of (row field).width) file)
    ∷ check (row field).rule (row field).place (is_allowed field file (value_of field file))
    ∷ []

unfoldable pub header_checks : List ℕ → List Check
header_checks file = flat_map (field_checks file) fields_in_order
