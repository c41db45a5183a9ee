-- What each fault of a file is called where it is printed.
use Rattle.std.specs.Prelude.{ℕ, List, codes}
use Rattle.elf.specs.declared.fault.ElfRule.{ElfRule}
use Rattle.elf.specs.declared.fault.ElfRule.TheVariants.{NotProgram, Truncated, Ranges, Symbol, Argument}

-- its short code
abbrev pub code_of : ElfRule → List ℕ
code_of NotProgram = codes "G1"
code_of Truncated = codes "G2"
code_of Ranges = codes "G3"
code_of Symbol = codes "G4"
code_of Argument = codes "G5"

-- what it says, in a few words
abbrev pub name_of : ElfRule → List ℕ
name_of NotProgram = codes "not a program for RV32"
name_of Truncated = codes "truncated"
name_of Ranges = codes "memory"
name_of Symbol = codes "symbol"
name_of Argument = codes "argument"
