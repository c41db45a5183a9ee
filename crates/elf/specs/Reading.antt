-- What the bytes of a file are: a program, or the first fault.
use Rattle.std.specs.Prelude.{◌≡◌, ℕ, Bool, List, ◌++◌, Option, None, Some, Result, Ok, Err}
use Rattle.elf.specs.Checks.{first_broken}
use Rattle.elf.specs.Header.{entry_of, header_checks, is_compressed}
use Rattle.elf.specs.Segments.{LoadedSegment, segment_checks, segments_of}
use Rattle.elf.specs.Symbols.{string_bytes_of, symbol_checks, symbols_of, table_bytes, table_of}
use Rattle.elf.specs.declared.fault.Broken.{Broken}
use Rattle.elf.specs.declared.fault.ElfFault.{ElfFault}
use Rattle.elf.specs.declared.fault.ElfFault.TheVariants.{File, Memory}
use Rattle.elf.specs.declared.symbol.Symbol.{Symbol}

-- A program: where it begins, whether its code may have instructions of 16 bits, its segments, its symbols, and the
-- strings that have their names.
pub record Executable : Type 0 where
  pub entry : ℕ
  pub compressed : Bool
  pub segments : List LoadedSegment
  pub symbols : List Symbol
  pub strings : List ℕ

-- what the first check tells that does not hold: in the file header, then in the program headers, then in the symbol
-- table
unfoldable pub fault_of : List ℕ → Option Broken
fault_of file = first_broken (header_checks file ++ segment_checks file ++ symbol_checks file)

unfoldable pub program_of : List ℕ → Executable
program_of file =
    record {
      entry = entry_of file;
      compressed = is_compressed file;
      segments = segments_of file;
      symbols = symbols_of (table_bytes file (table_of file));
      strings = string_bytes_of file (table_of file);
    }

-- the program that the bytes spell, or their fault
abbrev pub answer : Option Broken → Executable → Result Executable ElfFault
answer None program = Ok program
answer (Some broken) program = Err (File broken.rule broken.at)

abbrev pub reading : List ℕ → Result Executable ElfFault
reading file = answer (fault_of file) (program_of file)

-- what was read is what should be, unless memory was refused
abbrev pub IsUnlessMemory : {A : Type 0} → Result A ElfFault → Result A ElfFault → Type 0
IsUnlessMemory (Ok value) expected = expected ≡ Ok value
IsUnlessMemory (Err Memory) expected = Unit {0}
IsUnlessMemory (Err (File rule at)) expected = expected ≡ Err (File rule at)
