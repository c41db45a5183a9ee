-- The symbol table and its strings (gABI, chapter 4, "Sections": `Elf32_Shdr`, "String Table", "Symbol Table":
-- `Elf32_Sym`).
use Rattle.std.specs.Prelude.{ℕ, zero, suc, ◌+◌, ◌*◌, ◌/◌, Bool, List, [], ◌∷◌, length, Option, None, Some, find}
use Rattle.std.specs.Prelude.{nat_lt, ◌==◌}
use Rattle.elf.specs.Checks.{Check, check, is_inside}
use Rattle.elf.specs.Header.{section_header_count, section_headers_place}
use Rattle.elf.specs.Numbers.{byte_at, half_at, part, word_at}
use Rattle.elf.specs.declared.fault.ElfRule.TheVariants.{NotProgram, Truncated}
use Rattle.elf.specs.declared.section.Section.{Section}
use Rattle.elf.specs.declared.symbol.Symbol.{Symbol}

-- the section header at a place
unfoldable pub section_at : ℕ → List ℕ → Section
section_at place file =
    record {
      place = place;
      kind = word_at (place + 4) file;
      offset = word_at (place + 16) file;
      size = word_at (place + 20) file;
      link = word_at (place + 24) file;
      entry_size = word_at (place + 36) file;
    }

-- so many from a place on
abbrev pub sections_from : ℕ → ℕ → List ℕ → List Section
sections_from zero place file = []
sections_from (suc n) place file = section_at place file ∷ sections_from n (place + 40) file

-- SHT_SYMTAB
abbrev pub is_table : Section → Bool
is_table section = section.kind == 2

-- the first section of type SHT_SYMTAB, where there is one
unfoldable pub table_of : List ℕ → Option Section
table_of file =
    find is_table (sections_from (section_header_count file) (section_headers_place file) file)

-- the section that has the names of its symbols
abbrev pub strings_section : List ℕ → Section → Section
strings_section file table = section_at (section_headers_place file + 40 * table.link) file

-- the bytes of a section are in the file
abbrev pub bytes_check : List ℕ → Section → Check
bytes_check file section = check Truncated (section.place + 16) (is_inside section.offset section.size file)

abbrev pub table_checks : List ℕ → Option Section → List Check
table_checks file None = []
table_checks file (Some table) =
    bytes_check file table
    ∷ check NotProgram (table.place + 24) (nat_lt table.link (section_header_count file))
    ∷ check NotProgram (table.place + 36) (table.entry_size == 16)
    ∷ bytes_check file (strings_section file table)
    ∷ []

unfoldable pub symbol_checks : List ℕ → List Check
symbol_checks file = table_checks file (table_of file)

abbrev pub section_bytes : List ℕ → Section → List ℕ
section_bytes file section = part section.offset section.size file

-- the bytes of the table, none where there is no table, and those of its strings
abbrev pub table_bytes : List ℕ → Option Section → List ℕ
table_bytes file None = []
table_bytes file (Some table) = section_bytes file table

abbrev pub string_bytes_of : List ℕ → Option Section → List ℕ
string_bytes_of file None = []
string_bytes_of file (Some table) = section_bytes file (strings_section file table)

-- the symbol at a place of a table
unfoldable pub symbol_at : ℕ → List ℕ → Symbol
symbol_at place table =
    record {
      name = word_at place table;
      value = word_at (place + 4) table;
      size = word_at (place + 8) table;
      info = byte_at (place + 12) table;
      section = half_at (place + 14) table;
    }

-- so many from a place on
abbrev pub symbols_from : ℕ → ℕ → List ℕ → List Symbol
symbols_from zero place table = []
symbols_from (suc n) place table = symbol_at place table ∷ symbols_from n (place + 16) table

-- the symbols of a table, each of 16 bytes. A rest that is shorter is none
abbrev pub symbols_of : List ℕ → List Symbol
symbols_of table = symbols_from (length table / 16) 0 table
